-- What contracts below the face alone cite.
pub mod Pours
pub mod Replies
