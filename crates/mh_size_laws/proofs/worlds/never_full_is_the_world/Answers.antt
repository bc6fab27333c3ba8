use Rattle.mh_size_laws.proofs.worlds.WorldReplies.{never-full-world}
use Rattle.mh_size_laws.proofs.worlds.never_full_is_the_world.Goals as goal

pub returns : goal.returns
returns c = never-full-world
