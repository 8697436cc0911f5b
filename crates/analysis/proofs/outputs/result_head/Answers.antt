-- `analysis::outputs::result_head` meets its contract. Assumes nothing.
use mathlib.Core.Path.{◌∙◌, refl}
use Rattle.lists.specs.Bytes.{bytes}
use Rattle.lists.proofs.Little.{four_bytes}
use Rattle.analysis.specs.Result.{head_of}
use Rattle.analysis.proofs.outputs.result_head.Goals as goal

pub returns : goal.returns
unfolding head_of bytes
returns c =
    rw (
      c.copy_from_slice.ensures.after,
      c.copy_from_slice-2.ensures.after ∙ c.to_le_bytes.ensures,
      c.copy_from_slice-3.ensures.after ∙ c.to_le_bytes-2.ensures ∙ four_bytes c.args.s.number,
      c.copy_from_slice-4.ensures.after ∙ c.to_le_bytes-3.ensures,
      c.copy_from_slice-5.ensures.after ∙ c.to_le_bytes-4.ensures,
      c.copy_from_slice-6.ensures.after ∙ c.to_le_bytes-5.ensures,
    )
    refl
