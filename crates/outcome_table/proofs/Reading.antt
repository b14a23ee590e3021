-- The lines of a text that are read so far.
use Rattle.std.proofs.Common.{◌≡◌, ◌⊎◌, ℕ, ◌+◌, List, [], ◌∷◌, ◌++◌, length, codes, map, Some, inl, inr, refl, sym, ◌∙◌, ap, subst, arith}
use Rattle.std.proofs.lemmas.List.{append_assoc, append-nil, length-append}
use Rattle.patch_base.specs.Texts.{IsSkipped}
use Rattle.source_model.specs.declared.Given.{Given}
use Rattle.outcome_table.specs.declared.draft.Draft.{Draft}
use Rattle.outcome_table.specs.declared.fault.OutcomeFault.{OutcomeFault}
use Rattle.outcome_table.specs.declared.fault.OutcomeFault.TheVariants as fault
use Rattle.outcome_table.specs.OutcomeText.{AllKept, AreRead, Asked, BreaksText, IsHeaded, IsShort, Kept, Line, Refuses, Spells, StandsFor}
use Rattle.outcome_table.specs.inside.Drafts.{BreaksBody, Holds, IsBodyOf, IsFirstEmpty, Takes}
use Rattle.outcome_table.proofs.Slots.{empty_lacks, filled_given, filled_kinds, lacks_empty}

pub record SoFar (a : Asked) (all rest : List (List ℕ)) (number : ℕ) (d : Draft) : Type 0 where
  pub past : List (List ℕ)
  pub ls : List Line
  pub split : all ≡ past ++ rest
  pub read : AreRead past ls
  pub kept : AllKept a [] ls
  pub counted : number ≡ length past + 2
  pub holds : Holds a.kinds ls d

read_skipped : (texts : List (List ℕ)) (text : List ℕ) (ls : List Line) → AreRead texts ls → IsSkipped text → AreRead (texts ++ text ∷ []) ls
read_skipped [] text ls e skipped = inl (skipped, e)
read_skipped (t ∷ texts) text ls (inl h) skipped = inl (h.0, read_skipped texts text ls h.1 skipped)
read_skipped (t ∷ texts) text ls (inr (line, rest, e, says, read)) skipped = inr (line, rest, e, says, read_skipped texts text rest read skipped)

read_said : (texts : List (List ℕ)) (text : List ℕ) (ls : List Line) (line : Line) → AreRead texts ls → Spells text line → AreRead (texts ++ text ∷ []) (ls ++ line ∷ [])
read_said [] text ls line e says = inr (line, [], ap (λ xs. xs ++ line ∷ []) e, says, refl)
read_said (t ∷ texts) text ls line (inl h) says = inl (h.0, read_said texts text ls line h.1 says)
read_said (t ∷ texts) text ls line (inr (l, rest, e, says', read)) says = inr (l, rest ++ line ∷ [], ap (λ xs. xs ++ line ∷ []) e, says', read_said texts text rest line read says)

kept_more : (a : Asked) (past ls : List Line) (line : Line) → AllKept a past ls → Kept a (past ++ ls) line → AllKept a past (ls ++ line ∷ [])
kept_more a past [] line all h = (let P : List Line → Type 0 = λ xs. Kept a xs line in subst P (append-nil past) h, tt)
kept_more a past (l ∷ ls) line all h =
    let P : List Line → Type 0 = λ xs. Kept a xs line in
    (all.0, kept_more a (past ++ l ∷ []) ls line all.1 (subst P (sym (append_assoc past (l ∷ []) ls)) h))

pub nothing_read : (a : Asked) (all : List (List ℕ)) (d : Draft) → Holds a.kinds [] d → SoFar a all all 2 d
nothing_read a all d h = record { past = []; ls = []; split = refl; read = refl; kept = tt; counted = refl; holds = h }

moved : (all past rest rest' : List (List ℕ)) (text : List ℕ) → all ≡ past ++ rest → rest ≡ text ∷ rest' → all ≡ (past ++ text ∷ []) ++ rest'
moved all past rest rest' text e f = e ∙ ap (λ xs. past ++ xs) f ∙ sym (append_assoc past (text ∷ []) rest')

pub line_read : (a : Asked) (all rest rest' : List (List ℕ)) (text : List ℕ) (number : ℕ) (d d' : Draft) → SoFar a all rest number d → rest ≡ text ∷ rest' → ((ls : List Line) → Holds a.kinds ls d → Takes a ls text d') → SoFar a all rest' (number + 1) d'
line_read a all rest rest' text number d d' s e takes = go (takes s.ls s.holds)
  where
    count : number + 1 ≡ length (s.past ++ text ∷ []) + 2
    count = let c = s.counted in let l = length-append s.past (text ∷ []) in omega arith

    go : Takes a s.ls text d' → SoFar a all rest' (number + 1) d'
    go (inl h) = record {
      past = s.past ++ text ∷ [];
      ls = s.ls;
      split = moved all s.past rest rest' text s.split e;
      read = read_skipped s.past text s.ls s.read h.0;
      kept = s.kept;
      counted = count;
      holds = h.1;
    }
    go (inr (line, says, keeps, h)) = record {
      past = s.past ++ text ∷ [];
      ls = s.ls ++ line ∷ [];
      split = moved all s.past rest rest' text s.split e;
      read = read_said s.past text s.ls line s.read says;
      kept = kept_more a [] s.ls line s.kept keeps;
      counted = count;
      holds = h;
    }

pub line_broken : (a : Asked) (all rest rest' : List (List ℕ)) (text : List ℕ) (number : ℕ) (d : Draft) (f : OutcomeFault) → SoFar a all rest number d → rest ≡ text ∷ rest'
    → ((ls : List Line) → Holds a.kinds ls d → (f ≡ fault.Memory) ⊎ BreaksText a ls number text f) → (f ≡ fault.Memory) ⊎ BreaksBody a all f
line_broken a all rest rest' text number d f s e breaks = elim (breaks s.ls s.holds) [
  | inl m ↦ inl m
  | inr b ↦
      let P : ℕ → Type 0 = λ n. BreaksText a s.ls n text f in
      inr (record {
        before = s.past;
        broken = text;
        behind = rest';
        ls = s.ls;
        is = s.split ∙ ap (λ xs. s.past ++ xs) e;
        read = s.read;
        kept = s.kept;
        breaks = subst P s.counted b;
      })
]

pub all_read : (a : Asked) (all rest : List (List ℕ)) (number : ℕ) (d : Draft) → SoFar a all rest number d → rest ≡ [] → IsBodyOf a all d
all_read a all rest number d s e =
    let P : List (List ℕ) → Type 0 = λ ts. AreRead ts s.ls in
    let is : s.past ≡ all = sym (append-nil s.past) ∙ ap (λ xs. s.past ++ xs) (sym e) ∙ sym s.split in
    record { ls = s.ls; read = subst P is s.read; kept = s.kept; holds = s.holds }

-- ---- the whole text
pub stands : (a : Asked) (text : List ℕ) (texts : List (List ℕ)) (d : Draft) (table : List Given) → IsShort text → IsHeaded text texts → IsBodyOf a texts d → d.table.items ≡ map (λ g. Some g) table → StandsFor a text table d.fails.items
stands a text texts d table short headed h e = record {
  short = short;
  ls = h.ls;
  read = record { texts = texts; headed = headed; read = h.read; kept = h.kept };
  kinds = filled_kinds a.kinds h.ls d.table.items table h.holds.sized h.holds.slots e;
  given = filled_given a.kinds h.ls d.table.items table h.holds.sized h.holds.slots e;
  listed = h.holds.fails;
}

pub misses : (a : Asked) (text : List ℕ) (texts : List (List ℕ)) (d : Draft) (f : OutcomeFault) → IsShort text → IsHeaded text texts → IsBodyOf a texts d → IsFirstEmpty d.table.items f → Refuses a text f
misses a text texts d f short headed h (n, e, empty, least) =
    inr (inr (inr (
      n,
      e,
      record {
        short = short;
        ls = h.ls;
        read = record { texts = texts; headed = headed; read = h.read; kept = h.kept };
        lacks = empty_lacks a h.ls d.table.items n h.holds.sized h.holds.slots empty;
        least = (λ p below lacks. least p below (lacks_empty a h.ls d.table.items p h.holds.sized h.holds.slots lacks));
      },
    )))

pub breaks_text : (a : Asked) (text : List ℕ) (texts : List (List ℕ)) (f : OutcomeFault) → IsShort text → IsHeaded text texts → BreaksBody a texts f → Refuses a text f
breaks_text a text texts f short headed h =
    inr (inr (inl (
      short,
      record {
        before = h.before;
        broken = h.broken;
        behind = h.behind;
        ls = h.ls;
        headed = headed ∙ ap (λ ts. codes "outcomes 1" ∷ ts) h.is;
        read = h.read;
        kept = h.kept;
        breaks = h.breaks;
      },
    )))
