mod TellLemmas
mod MadeLemmas
mod LinkLemmas
mod ChildLemmas
mod GroupLemmas
mod FullLemmas
mod RoomLemmas
