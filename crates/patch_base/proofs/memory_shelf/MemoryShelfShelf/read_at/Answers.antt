use Rattle.std.proofs.Common.{◌≡◌, None, ap, sym, ◌∙◌}
use Rattle.std.specs.Option.{option_copied}
use Rattle.patch_base.specs.MemoryShelf.{text_of}
use Rattle.patch_base.proofs.Shelves.{told_after, counts_after, failed_after, fails_absent}
use Rattle.patch_base.proofs.memory_shelf.MemoryShelfShelf.read_at.Goals as goal
use Rattle.patch_base.proofs.memory_shelf.MemoryShelfShelf.read_at.Goals.{in-Some, in_default-2, in_default}

pub returns-clause-told : goal.returns-clause-told
returns-clause-told c = λ n. rw c.count_call-fails.ensures.after (told_after c.args.self.now c.args.name.now n)

pub returns-clause-counts : goal.returns-clause-counts
returns-clause-counts c = λ n. rw c.count_call-fails.ensures.after (counts_after c.args.self.now c.args.name.now n)

pub returns-clause-failed : goal.returns-clause-failed
returns-clause-failed c = elim c.match-text_in.branch [
  | in-Some w ↦ rw w.result-is tt
  | in_default-2 w ↦
      rw (w.result-is, c.count_call-fails.ensures.after) (failed_after c.args.self.now c.args.name.now (sym w.if-not-fails.ensures.fails))
  | in_default w ↦
      let found = sym c.text_in.ensures ∙ ap option_copied w.in_default.is in
      let none : text_of c.count_call-fails.new.self.books c.args.name.now ≡ None = rw (← c.self.view_is, ← c.deref.ensures.value) found in
      let absent = rw c.count_call-fails.ensures.after at none in
      rw (w.result-is, c.count_call-fails.ensures.after) (failed_after c.args.self.now c.args.name.now (fails_absent c.args.self.now c.args.name.now absent))
]
