pub mod LaterLatencies
pub mod RowScan
pub mod RowStore
pub mod ChainTable
