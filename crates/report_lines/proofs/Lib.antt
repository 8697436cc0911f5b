pub mod Examples
pub mod TextsInOrder
pub mod Digits
pub mod RecordLine
pub mod ArchiveRecords
pub mod ArchivePieces
pub mod Outcomes
