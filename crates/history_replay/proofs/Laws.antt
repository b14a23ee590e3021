-- The laws that crates above cite.
use Rattle.history_replay.specs.Laws.{SchedulesAreLegal}

pub schedules_are_legal : SchedulesAreLegal
schedules_are_legal c grid fails table text s = record { stands = s.stands; legal = s.legal.legal; complete = s.legal.complete; are = s.are }
