-- What a line of a text is.
use Rattle.std.specs.Prelude.{◌≡◌, ◌↔◌, ℕ, ◌+◌, ◌<◌, ◌≤◌, min, IsTrue, List, length}
use Rattle.patch_base.specs.Texts.{line_end}
use Rattle.patch_base.specs.declared.text.Line.{Line}

-- the line of a text that begins at a place
pub record IsLineAt (text : List ℕ) (at : ℕ) (l : Line) : Type 0 where
  pub start : l.start ≡ at
  pub end : l.end ≡ line_end text at
  pub next : l.next ≡ min (line_end text at + 1) (length text)
  pub whole : IsTrue l.whole ↔ (line_end text at < length text)

-- its places lie in order within the text
pub record IsWithin (text : List ℕ) (l : Line) : Type 0 where
  pub end : l.start ≤ l.end
  pub next : l.end ≤ l.next
  pub stays : l.next ≤ length text
  pub goes_on : l.start < l.next
