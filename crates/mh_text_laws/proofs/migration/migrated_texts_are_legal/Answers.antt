use Rattle.mh_text_laws.proofs.migration.MigratedRecords.{migrated_legal}
use Rattle.mh_text_laws.proofs.migration.migrated_texts_are_legal.Goals as goal

pub returns : goal.returns
returns c = migrated_legal
