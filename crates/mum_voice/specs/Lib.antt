pub mod Varint
pub mod Packet
