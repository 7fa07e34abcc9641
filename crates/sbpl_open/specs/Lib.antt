pub mod KeyOrder
pub mod OpenList
pub mod Entries
pub mod Heap
