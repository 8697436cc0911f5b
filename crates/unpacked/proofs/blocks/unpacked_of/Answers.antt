-- `unpacked::blocks::unpacked_of` meets its contract: the instructions of an accepted block lead nowhere outside. Assumes nothing.
use borrow.Author.Rules.{rules}
use Rattle.unpacked.proofs.BlockInstructions.{few, within}
use Rattle.unpacked.proofs.blocks.unpacked_of.Goals as goal

pub instructions_of-requires : goal.instructions_of-requires
instructions_of-requires c = few c.args.b c.requires

pub invariant_of-result : goal.invariant_of-result
invariant_of-result c =
    let f = c.instructions_of in
    record {
      within =
          within c.args.b _ f.result
          (record {
            accepted = c.requires;
            shape =
                record {
                  n = search rules;
                  q = search rules;
                  w = search rules;
                  f = search rules;
                  d = search rules;
                  c = search rules;
                  most = c.shape_of.ensures.most;
                };
            instructions = f.ensures;
          });
    }
