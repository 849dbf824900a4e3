pub mod Fields
pub mod RoundTrip
