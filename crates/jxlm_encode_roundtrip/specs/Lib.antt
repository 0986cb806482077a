pub mod Inner
pub mod Pictures
pub mod RoundTrip
