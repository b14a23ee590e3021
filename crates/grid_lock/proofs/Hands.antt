-- What a seat with the board may do.
use Rattle.std.proofs.Common.{◌≡◌, ℕ, false, List, [], ◌∷◌, ◌++◌, drop, length, refl, ap, sym, ◌∙◌, subst, arith}
use Rattle.std.proofs.Math.Seq.{drop-append_seam}
use Rattle.atomic_table.specs.Table.{rest}
use Rattle.atomic_table.specs.Seated.{TableId}
use Rattle.board_core.specs.declared.Noted.{Noted}
use Rattle.board_core.specs.declared.Entry.{Entry}
use Rattle.board_core.specs.Position.{Position, with_history, note}
use Rattle.grid_lock.specs.declared.view.View.{View}
use Rattle.grid_lock.specs.Views.{IsSound}
use Rattle.grid_lock.specs.inside.Views.{taking, counting, adding, freeing}
use Rattle.grid_lock.specs.inside.Plays.{Sat, history_of}
use Rattle.grid_lock.specs.inside.Hands.{HasBoard, HasTaken, HasAdded, GainsEntry, board_of, with_own}
use Rattle.grid_lock.specs.Passes.{Known, known, IsCalm}
use Rattle.grid_lock.specs.Replies.{turned, Accepts, Finds}
use Rattle.grid_lock.proofs.Lists.{entries_mine, entries_other}

-- its slot can be lent
pub lends : (m : Sat) (log : List Noted) → HasBoard m log → (old : Position) × (m.1 ≡ (0, old) ∷ rest m.1)
lends m log h = let board : Position = with_history m.0.opened log in (board, h.2 ∙ ap (λ l. (0, board) ∷ rest l) (sym h.2))

-- a pass that adds an entry of its own stays sound
pub adds_sound : (m : Sat) → HasAdded m → IsSound m.0 → IsSound (freeing (with_own m))
adds_sound m h s =
    let v : View = m.0 in
    let e : Noted = h.0 in
    let log : List Noted = v.seen ++ e ∷ [] in
    let grown : IsSound (record v { seen = log; mine = v.mine ++ e ∷ []; holding = false }) = record {
      legal = h.3;
      own = entries_mine v.number v.seen e h.2 ∙ ap (λ l. l ++ e ∷ []) s.own;
      later = λ first n more. entries_other n v.seen e (λ is. (let t : e.by ≡ 0 = h.2 ∙ first in omega arith)) ∙ s.later first n more;
    } in
    let last : drop (length v.seen) log ≡ e ∷ [] = drop-append_seam v.seen (e ∷ []) in
    let same : history_of m.1 ≡ log = ap history_of h.1.2 in
    subst (λ (l : List Noted). IsSound (freeing (adding v l))) (sym same) (subst (λ (l : List Noted). IsSound (record v { seen = log; mine = v.mine ++ l; holding = false })) (sym last) grown)

-- what a pass knows after an accepted call: e was added to the history that it took
pub settled_is : (v : View) (log : List Noted) (e : Noted) (c : List (ℕ × Position)) → c ≡ (0, with_history v.opened (log ++ e ∷ [])) ∷ []
    → freeing (adding (counting (taking v log)) (history_of c)) ≡ turned v (log ++ e ∷ []) (v.mine ++ e ∷ [])
settled_is v log e c is = ap (λ l. freeing (adding (counting (taking v log)) (history_of l))) is ∙ ap (λ (l : List Noted). turned v (log ++ e ∷ []) (v.mine ++ l)) (drop-append_seam log (e ∷ []))

-- the same, as a reply: the pass knew v, l is its seat with the board in hand, m has the board with the entry, and n has given it back
pub accepts : (k : Known) (grid : TableId) (z : Sat) (number : ℕ) (l m n : Sat) (e : Entry) (Answers : Position → Type 0) → known grid z.0 ≡ k → number ≡ z.0.number
    → HasTaken z l → GainsEntry l m number e → Answers (board_of l) → n ≡ (freeing (with_own m), []) → Accepts k.view e Answers n.0
accepts k grid z number l m n e Answers view_is number_is taken adds answers settled =
    let v : View = z.0 in
    let goes = taken.0 in
    let took = taken.1 in
    let log : List Noted = l.0.seen in
    let x : Noted = note v.number e in
    let is : l.0 ≡ counting (taking v log) = ap (λ (s : Sat). s.0) took in
    let opened : l.0.opened ≡ v.opened = ap (λ (u : View). u.opened) is in
    let added : GainsEntry l m v.number e = subst (λ (by : ℕ). GainsEntry l m by e) number_is adds in
    let board = added.1 ∙ ap (λ (p : Position). (0, with_history p (log ++ x ∷ [])) ∷ []) opened in
    let reply : Accepts v e Answers n.0 = (
      log,
      record { legal = goes.2.legal; begins = goes.0; read = goes.1 },
      subst (λ (p : Position). Answers (with_history p log)) opened answers,
      ap (λ (s : Sat). s.0) settled ∙ (ap (λ (w : View). freeing (adding w (history_of m.1))) (added.0 ∙ is) ∙ settled_is v log x m.1 board),
    ) in subst (λ (p : Known). Accepts p.view e Answers n.0) view_is reply

-- the pass doesn't hold the turn afterwards
pub calm : (grid : TableId) (z l m n : Sat) (by : ℕ) (e : Entry) → HasTaken z l → GainsEntry l m by e → (IsSound m.0 → IsSound n.0)
    → n ≡ (freeing (with_own m), []) → IsCalm (known grid n.0)
calm grid z l m n by e taken adds sound settled =
    let took = taken.0.2 in
    let counted : IsSound (counting (taking z.0 l.0.seen)) = record { legal = took.legal; own = took.own; later = took.later } in
    let after = sound (subst IsSound (sym (adds.0 ∙ ap (λ (s : Sat). s.0) taken.1)) counted) in
    record { idle = ap (λ (s : Sat). s.0.holding) settled; legal = after.legal; own = after.own }

-- the same of a call that added nothing
pub finds : (k : Known) (grid : TableId) (z l n : Sat) (Answers : Position → Type 0) → known grid z.0 ≡ k → HasTaken z l → Answers (board_of l) → n ≡ (freeing l.0, []) → Finds k.view Answers n.0
finds k grid z l n Answers view_is taken answers freed =
    let v : View = z.0 in
    let goes = taken.0 in
    let took = taken.1 in
    let log : List Noted = l.0.seen in
    let is : l.0 ≡ counting (taking v log) = ap (λ (s : Sat). s.0) took in
    let opened : l.0.opened ≡ v.opened = ap (λ (u : View). u.opened) is in
    let after : n.0 ≡ turned v log v.mine = ap (λ (s : Sat). s.0) freed ∙ ap freeing is in
    let found : Finds v Answers (turned v log v.mine) = (
      record { legal = goes.2.legal; begins = goes.0; read = goes.1 },
      subst (λ (p : Position). Answers (with_history p log)) opened answers,
      refl,
    ) in subst (λ (p : Known). Finds p.view Answers n.0) view_is (subst (Finds v Answers) (sym after) found)
