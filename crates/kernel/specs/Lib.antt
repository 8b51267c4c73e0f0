-- The calls for vendors on the bytes of an entry; demands 1 and 3 of the exported functions.
pub mod EntryCalls
pub mod BytesDemand1
pub mod ByteLists
