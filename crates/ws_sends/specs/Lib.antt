pub mod KeyedSends
