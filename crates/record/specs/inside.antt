pub mod EntryBytes
