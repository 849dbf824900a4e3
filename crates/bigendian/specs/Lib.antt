pub mod BigEndian
