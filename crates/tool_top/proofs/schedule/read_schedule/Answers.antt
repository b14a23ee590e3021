use Rattle.std.proofs.Common.{ℕ, ◌<◌, List, length, subst, sym}
use Rattle.history_replay.specs.Replay.{IsTextOf, FirstBadLine}
use Rattle.job_read.specs.declared.Job.{Job}
use Rattle.tool_top.specs.declared.fault.ToolFault.{ToolFault}
use Rattle.tool_top.specs.declared.fault.ToolFault.TheVariants as fault
use Rattle.job_read.specs.Shelves.{shelved}
use Rattle.tool_top.specs.inside.Told.{EndsBy}
use Rattle.tool_top.specs.inside.Replayed.{IsReplayed, IsReplayedOn, StopsReading, StopsReplaying}
use Rattle.tool_top.specs.Schedules.{IsShort, asked_of}
use Rattle.tool_top.proofs.Accepting.{outside_err, read_whole}
use Rattle.tool_top.proofs.Ending.{stands_later}
use Rattle.tool_top.proofs.Replaying.{is_replayed, stops_replay, ok_map, err_map}
use Rattle.tool_top.proofs.Refusing.{by_schedule, ends_by, ends_outside, ends_at, read_long}
use Rattle.tool_top.proofs.schedule.read_schedule.Goals as goal

pub returns-in-Ok-clause-replayed : goal.returns-in-Ok-clause-replayed
returns-in-Ok-clause-replayed g c =
    let replayed = rw c.deref.ensures.value at c.replay.ensures.replayed in
    ok_map c.replay.result (IsReplayedOn c.in_ok-job.job c.in-Ok.text.items)
    (IsReplayed (shelved g.S.Shelf.tells g.S.Shelf.faults c.args.shelf.now c.read_text.new.shelf) c.args.names.circuit.now c.args.names.layout.now c.args.names.outcomes.now c.args.names.schedule.now)
    (λ x i. is_replayed (g.S.Shelf.tells c.args.shelf.now) (g.S.Shelf.tells c.read_job.new.shelf) (g.S.Shelf.faults c.args.shelf.now) (g.S.Shelf.faults c.read_job.new.shelf) (g.S.Shelf.faults c.read_text.new.shelf)
    c.args.names.circuit.now c.args.names.layout.now c.args.names.outcomes.now c.args.names.schedule.now c.in_ok-job.job c.in-Ok.text.items x
    c.in_ok-job.ensures.accepted c.in_ok-job.ensures.kept (c.in_ok-job.ensures.told c.args.names.schedule.now) c.in-Ok.ensures.text i)
    replayed

pub returns-in-Ok-clause-stops : goal.returns-in-Ok-clause-stops
returns-in-Ok-clause-stops g c =
    let stops = rw c.deref.ensures.value at c.replay.ensures.stops in
    err_map c.replay.result (StopsReplaying c.in_ok-job.job c.in-Ok.text.items)
    (StopsReading (shelved g.S.Shelf.tells g.S.Shelf.faults c.args.shelf.now c.read_text.new.shelf) c.args.names.circuit.now c.args.names.layout.now c.args.names.outcomes.now c.args.names.schedule.now)
    (λ f h. stops_replay (g.S.Shelf.tells c.args.shelf.now) (g.S.Shelf.tells c.read_job.new.shelf) (g.S.Shelf.faults c.args.shelf.now) (g.S.Shelf.faults c.read_job.new.shelf) (g.S.Shelf.faults c.read_text.new.shelf)
    c.args.names.circuit.now c.args.names.layout.now c.args.names.outcomes.now c.args.names.schedule.now c.in_ok-job.job c.in-Ok.text.items f
    c.in_ok-job.ensures.accepted (c.in_ok-job.ensures.told c.args.names.schedule.now) c.in-Ok.ensures.text h)
    stops

pub returns-in_err-job-clause-complete : goal.returns-in_err-job-clause-complete
returns-in_err-job-clause-complete g c = λ a.
    outside_err c.from_residual.result c.in_err-job.field-0.0 c.from_residual.ensures.1 (c.in_err-job.ensures.exact a.0 a.3 a.4)

pub returns-in-Ok-clause-complete : goal.returns-in-Ok-clause-complete
returns-in-Ok-clause-complete g c = λ a.
    let s = c.args.names.schedule.now in
    let same = c.in_ok-job.ensures.exact a.0 a.3 (stands_later (g.S.Shelf.tells c.args.shelf.now) (g.S.Shelf.faults c.args.shelf.now) (g.S.Shelf.faults c.read_text.new.shelf) (g.S.Shelf.faults c.read_job.new.shelf) c.args.names.circuit.now c.args.names.layout.now c.args.names.outcomes.now a.0 a.4) in
    let read = read_whole (λ text. IsTextOf (asked_of a.0) text a.1 a.2) (g.S.Shelf.tells c.args.shelf.now s) (g.S.Shelf.tells c.read_job.new.shelf s) c.in-Ok.text.items a.5 (c.in_ok-job.ensures.told s) c.in-Ok.ensures.text a.6 in
    let is = subst (λ (j : Job). IsTextOf (asked_of j) c.in-Ok.text.items a.1 a.2) (sym same) read.1 in
    c.replay.ensures.complete a.1 a.2 (subst IsShort (sym c.deref.ensures.value) read.0) (subst (λ (t : List ℕ). IsTextOf (asked_of c.in_ok-job.job) t a.1 a.2) (sym c.deref.ensures.value) is)

pub returns-in_err-job-clause-refuses : goal.returns-in_err-job-clause-refuses
returns-in_err-job-clause-refuses g c = λ f x.
    let e = c.in_err-job.field-0.0 in
    let end = c.from_residual.result in
    let is = c.from_residual.ensures.1 in
    by_schedule (λ (h : ToolFault). EndsBy h end) (shelved g.S.Shelf.tells g.S.Shelf.faults c.args.shelf.now c.read_job.new.shelf)
    c.args.names.circuit.now c.args.names.layout.now c.args.names.outcomes.now c.args.names.schedule.now
    (λ h told refused. ends_by e h end is (c.in_err-job.ensures.faults h told refused))
    (λ j tells told stands past. ends_outside (fault.Job e) fault.ScheduleTooLong end is (c.in_err-job.ensures.exact j tells stands))
    (λ line j tells told stands bad. ends_outside (fault.Job e) (fault.ScheduleIllegal line) end is (c.in_err-job.ensures.exact j tells stands))
    f x

pub returns-in-Ok-clause-refuses : goal.returns-in-Ok-clause-refuses
returns-in-Ok-clause-refuses g c = λ f x.
    let s = c.args.names.schedule.now in
    let text = c.in-Ok.text.items in
    let end = c.replay.result in
    by_schedule (λ (h : ToolFault). EndsBy h end) (shelved g.S.Shelf.tells g.S.Shelf.faults c.args.shelf.now c.read_text.new.shelf)
    c.args.names.circuit.now c.args.names.layout.now c.args.names.outcomes.now s
    (λ h told refused. absurd (c.in_ok-job.ensures.faults h told refused))
    (λ j tells told stands past.
    let long = read_long (g.S.Shelf.tells c.args.shelf.now s) (g.S.Shelf.tells c.read_job.new.shelf s) text told (c.in_ok-job.ensures.told s) c.in-Ok.ensures.text past in
    ends_at fault.ScheduleTooLong end (c.replay.ensures.long (subst (λ (t : List ℕ). 67108864 < length t) (sym c.deref.ensures.value) long)))
    (λ line j tells told stands bad.
    let same = c.in_ok-job.ensures.exact j tells (stands_later (g.S.Shelf.tells c.args.shelf.now) (g.S.Shelf.faults c.args.shelf.now) (g.S.Shelf.faults c.read_text.new.shelf) (g.S.Shelf.faults c.read_job.new.shelf) c.args.names.circuit.now c.args.names.layout.now c.args.names.outcomes.now j stands) in
    let read = read_whole (λ t. FirstBadLine (asked_of j) t line) (g.S.Shelf.tells c.args.shelf.now s) (g.S.Shelf.tells c.read_job.new.shelf s) text told (c.in_ok-job.ensures.told s) c.in-Ok.ensures.text bad in
    let is = subst (λ (k : Job). FirstBadLine (asked_of k) text line) (sym same) read.1 in
    c.replay.ensures.bad line (subst IsShort (sym c.deref.ensures.value) read.0) (subst (λ (t : List ℕ). FirstBadLine (asked_of c.in_ok-job.job) t line) (sym c.deref.ensures.value) is))
    f x
