pub mod AsciiKinds
