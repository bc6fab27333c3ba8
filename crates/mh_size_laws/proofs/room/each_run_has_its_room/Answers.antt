use Rattle.mh_size_laws.proofs.room.each_run_has_its_room.Goals as goal

pub returns : goal.returns
returns c config events = record {
  bound = c.cycles_take_the_bound.ensures config events;
  room = c.room_in_a_row_suffices.ensures config events;
  rate = λ allowed most quanta used. c.room_at_rate_suffices.ensures allowed most quanta used config events;
  worlds = c.never_full_is_the_world.ensures config events;
}
