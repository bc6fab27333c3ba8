use Rattle.mh_race.proofs.RunSeats.{was-refused}
use Rattle.mh_race.proofs.racer.ServiceCalled.answer.Goals as goal

pub returns-clause-refused : goal.returns-clause-refused
returns-clause-refused g c = was-refused c.args.self.now c.args.seat.now c.call.new.seat c.args.event c.call.result c.requires.own c.call.ensures.own.0 c.call.ensures.own.1 c.call.ensures.err c.call.ensures.served
