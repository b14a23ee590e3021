-- Letters other than I stay.
use Rattle.std.proofs.Common.{◌≡◌, ℕ, zero, suc, ◌+◌, List, [], ◌∷◌, ◌++◌, replicate, slice_index_or, refl, sym, arith, subst}
use Rattle.std.specs.Prelude.{All, IsTrue}
use Rattle.std.proofs.lemmas.List.Elements.{All-nil, All-head, All-tail, All-append, All-map, All-weaker}
use Rattle.pauli_product.specs.declared.Letter.{Letter}
use Rattle.pauli_product.specs.declared.Letter.TheVariants.{I}
use Rattle.pauli_product.specs.Signed.{Signed}
use Rattle.source_model.specs.declared.Circuit.{Circuit}
use Rattle.source_model.specs.declared.Item.{Item}
use Rattle.source_model.specs.SourceRun.{axis_of}
use Rattle.source_model.specs.Circuits.{bits_in}
use Rattle.source_model.specs.Used.{acts, acts_at}
use Rattle.side_by_side.specs.declared.place.Place.{Place}
use Rattle.side_by_side.specs.Places.{fill, item_in, items_in}
use Rattle.side_by_side.specs.Joined.{bits_of, place_at, joined_from, joined_items}
use Rattle.side_by_side.specs.Laws.{HaveLetters}
use Rattle.side_by_side.proofs.Beside.{axis_of_in}

idle : (n q : ℕ) → acts (slice_index_or (replicate n I) q I) ≡ acts I
idle zero q = refl
idle (suc n) zero = refl
idle (suc n) (suc q) = idle n q

-- letters with I after them
longer : (ls : List Letter) (n q : ℕ) → IsTrue (acts (slice_index_or ls q I)) → IsTrue (acts (slice_index_or (ls ++ replicate n I) q I))
longer [] n q h = cc
longer (l ∷ ls) n zero h = h
longer (l ∷ ls) n (suc q) h = longer ls n q h

filled : (before after : ℕ) (ls : List Letter) (q : ℕ) → IsTrue (acts (slice_index_or ls q I)) → IsTrue (acts (slice_index_or (fill before after ls) (before + q) I))
filled zero after ls q h = let at : 0 + q ≡ q = omega arith in rw at (longer ls after q h)
filled (suc before) after ls q h = let at : suc before + q ≡ suc (before + q) = omega arith in rw at (filled before after ls q h)

item_acts : (s : Place) (i : Item) → (q : ℕ) × IsTrue (acts_at (axis_of i) q) → (q : ℕ) × IsTrue (acts_at (axis_of (item_in s i)) q)
item_acts s i h = (s.before + h.0, subst (λ (p : Signed). IsTrue (acts_at p (s.before + h.0))) (sym (axis_of_in s i)) (filled s.before s.after (axis_of i).letters h.0 h.1))

letters_from : (q b h : ℕ) (cs : List Circuit) → All (λ c. HaveLetters c.items) cs → HaveLetters (joined_from q b h cs)
letters_from q b h [] l = All-nil (λ i. (q : ℕ) × IsTrue (acts_at (axis_of i) q))
letters_from q b h (c ∷ cs) l =
    let s = place_at q b h c cs in
    let P : Item → Type 0 = λ i. (q : ℕ) × IsTrue (acts_at (axis_of i) q) in
    All-append P (items_in s c.items) (joined_from (q + c.qubits) (b + bits_in c.registers) (h + c.hidden) cs)
    (All-map P (item_in s) c.items (All-weaker P (λ i. P (item_in s i)) (item_acts s) c.items (All-head (λ c. HaveLetters c.items) c cs l)))
    (letters_from (q + c.qubits) (b + bits_in c.registers) (h + c.hidden) cs (All-tail (λ c. HaveLetters c.items) c cs l))

pub letters_stay : (cs : List Circuit) → All (λ c. HaveLetters c.items) cs → HaveLetters (joined_items cs)
letters_stay cs l = letters_from 0 0 (bits_of cs) cs l
