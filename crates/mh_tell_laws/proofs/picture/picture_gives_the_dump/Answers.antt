use Rattle.mh_tell_laws.proofs.picture.DumpLemmas.{gives-the-dump}
use Rattle.mh_tell_laws.proofs.picture.picture_gives_the_dump.Goals as goal

pub returns : goal.returns
returns c = gives-the-dump
