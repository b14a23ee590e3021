use Rattle.std.proofs.Common.{List, ℕ, ◌∷◌, ◌∙◌, ap}
use Rattle.std.proofs.lemmas.Bool.{false≢true}
use Rattle.patch_layout.proofs.Spelled.{first_patch, first_port, first_wall, first_other, value_patch, value_port, value_wall}
use Rattle.patch_layout.proofs.line.read_line.Goals as goal

pub returns-then-is_word-clause-value : goal.returns-then-is_word-clause-value
returns-then-is_word-clause-value c =
    value_patch c.args.text.now c.of-words.result c.next_word.new.self c.patch.result c.of-words.ensures
    (c.in_ok-word.ensures.word ∙ ap (λ (w : List ℕ). w ∷ c.next_word.new.self) (c.is_word.ensures.0 c.if-is_word.true)) c.patch.ensures.value

pub returns-then-is_word-clause-other : goal.returns-then-is_word-clause-other
returns-then-is_word-clause-other c =
    first_patch c.args.text.now c.of-words.result c.next_word.new.self c.patch.result c.of-words.ensures
    (c.in_ok-word.ensures.word ∙ ap (λ (w : List ℕ). w ∷ c.next_word.new.self) (c.is_word.ensures.0 c.if-is_word.true)) c.patch.ensures.other

pub returns-then-is_word-2-clause-value : goal.returns-then-is_word-2-clause-value
returns-then-is_word-2-clause-value c =
    value_port c.args.text.now c.of-words.result c.next_word.new.self c.port.result c.of-words.ensures
    (c.in_ok-word.ensures.word ∙ ap (λ (w : List ℕ). w ∷ c.next_word.new.self) (c.is_word-2.ensures.0 c.if-is_word-2.true)) c.port.ensures.value

pub returns-then-is_word-2-clause-other : goal.returns-then-is_word-2-clause-other
returns-then-is_word-2-clause-other c =
    first_port c.args.text.now c.of-words.result c.next_word.new.self c.port.result c.of-words.ensures
    (c.in_ok-word.ensures.word ∙ ap (λ (w : List ℕ). w ∷ c.next_word.new.self) (c.is_word-2.ensures.0 c.if-is_word-2.true)) c.port.ensures.other

pub returns-then-is_word-3-clause-value : goal.returns-then-is_word-3-clause-value
returns-then-is_word-3-clause-value c =
    value_wall c.args.text.now c.of-words.result c.next_word.new.self c.wall.result c.of-words.ensures
    (c.in_ok-word.ensures.word ∙ ap (λ (w : List ℕ). w ∷ c.next_word.new.self) (c.is_word-3.ensures.0 c.if-is_word-3.true)) c.wall.ensures.value

pub returns-then-is_word-3-clause-other : goal.returns-then-is_word-3-clause-other
returns-then-is_word-3-clause-other c =
    first_wall c.args.text.now c.of-words.result c.next_word.new.self c.wall.result c.of-words.ensures
    (c.in_ok-word.ensures.word ∙ ap (λ (w : List ℕ). w ∷ c.next_word.new.self) (c.is_word-3.ensures.0 c.if-is_word-3.true)) c.wall.ensures.other

pub returns-clause-other : goal.returns-clause-other
returns-clause-other c =
    first_other c.args.text.now c.in_ok-word.word.now c.of-words.result c.next_word.new.self c.of-words.ensures c.in_ok-word.ensures.word (λ e. false≢true (c.if-is_word.ensures.1 e)) (λ e. false≢true (c.if-is_word-2.ensures.1 e)) (λ e. false≢true (c.if-is_word-3.ensures.1 e))
