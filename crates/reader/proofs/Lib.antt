pub mod ReaderInOrder
