pub mod NoLargerBuffer
