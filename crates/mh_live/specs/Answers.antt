-- What an event of a line is answered, and where a run by lines stands.
use Rattle.std.specs.Prelude.{◌≡◌, codes}
use Rattle.mh_model.specs.{declared.config.Config.Config, declared.config.Rules.Rules, Bytes.{Text, line_text}}
use Rattle.mh_model.specs.Live.{Live, first_world_live}

-- the lines of an event that isn't done: after the last of all, for refused memory, and for a control in a world
abbrev pub full_line : Text
full_line = line_text (codes "refused 8 history full")

abbrev pub starved_line : Text
starved_line = line_text (codes "refused 9 no memory")

-- a run in a world that has answered no line, under these rules
abbrev pub IsOfRules : Rules → Live → Type 0
IsOfRules rules live = (config : Config) × (config.rules ≡ rules) × (live ≡ first_world_live config)
