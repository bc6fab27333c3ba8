pub mod BegunWithin
