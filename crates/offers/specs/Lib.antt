pub mod BookSound
pub mod Books
