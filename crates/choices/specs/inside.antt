pub mod InstructionRows
pub mod NoteSteps
pub mod PlayNotes
