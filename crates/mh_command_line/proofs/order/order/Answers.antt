use Rattle.std.proofs.Common.{rules}
use Rattle.mh_command_line.proofs.OrderLemmas.{gives_order, matched_one, options_refused, version_asked, words_refused}
use Rattle.mh_command_line.proofs.order.order.Goals as goal

pub order_of-requires : goal.order_of-requires
order_of-requires g c =
    matched_one _ _ _ c.in-Ok.ensures c.in-Ok-try_get_matches_from.ensures.matches c.in-Ok-try_get_matches_from.ensures.kinds

pub returns-in-Ok-order_of-clause-order : goal.returns-in-Ok-order_of-clause-order
returns-in-Ok-order_of-clause-order g c =
    gives_order _ _ c.in-Ok-try_get_matches_from.matches c.in-Ok.ensures c.in-Ok-try_get_matches_from.ensures.matches c.in-Ok-try_get_matches_from.ensures.kinds
    _ c.in-Ok-order_of.ensures.order c.in-Ok-order_of.ensures.few c.in-Ok-order_of.ensures.rules

pub returns-in-Ok-try_get_matches_from-clause-fault : goal.returns-in-Ok-try_get_matches_from-clause-fault
returns-in-Ok-try_get_matches_from-clause-fault g c =
    options_refused _ _ c.in-Ok-try_get_matches_from.matches c.in-Ok.ensures c.in-Ok-try_get_matches_from.ensures.matches c.in-Ok-try_get_matches_from.ensures.kinds
    c.in-Err-order_of.fault _ c.in-Err-order_of.ensures.fault c.refused_options.ensures

pub returns-clause-fault : goal.returns-clause-fault
returns-clause-fault g c = words_refused _ _ c.in-Err.error _ c.in-Ok.ensures c.in-Err.ensures.kinds (search rules) c.refused_words.ensures

pub returns-in-Err-clause-order : goal.returns-in-Err-clause-order
returns-in-Err-clause-order g c = version_asked _ _ c.in-Err.error c.in-Ok.ensures c.in-Err.ensures.kinds (search rules)
