-- Laws of the answers that cross, and of decoding.
pub mod DecodeLaws
