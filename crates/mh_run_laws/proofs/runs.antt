pub mod FaithfulMoments
pub mod RunsByEvents
