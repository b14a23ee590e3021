-- The whole text of a legal history's slices.
use Rattle.std.proofs.Common.{◌≡◌, ℕ, zero, suc, ◌≤◌, List, [], ◌∷◌, length, get_or, take, ap, sym, ◌∙◌, subst, arith}
use Rattle.std.specs.Prelude.{All}
use Rattle.std.proofs.lemmas.List.{length-map}
use Rattle.std.proofs.lemmas.Option.{slice_get_within, slice_get-get_or}
use Rattle.board_core.specs.declared.Noted.{Noted}
use Rattle.board_core.specs.declared.Entry.{Entry}
use Rattle.board_core.specs.declared.Entry.TheVariants.{Claim, Deliver, Release, Step, Settle}
use Rattle.board_core.specs.History.{History, entries}
use Rattle.board_core.specs.Legal.{BoardJob, Legal, Allowed}
use Rattle.board_core.specs.Limits.{WithinLimits, AreFactories}
use Rattle.slice_write.specs.declared.page.Page.{Page}
use Rattle.slice_write.specs.Slices.{Sliced, greatest, sliced, slices_of, entries_of}
use Rattle.slice_write.specs.Pictures.{slices_text}
use Rattle.slice_write.specs.inside.Marks.{HasRoom, paired}
use Rattle.slice_write.specs.inside.Pages.{PagesAre, pages_text}
use Rattle.slice_write.proofs.Slicing.{sliced_entries}
use Rattle.slice_write.proofs.Paging.{paired_all}
use Rattle.slice_write.proofs.Words.{pages_say}

pub le_greatest : (ns : List ℕ) → All (λ n. n ≤ greatest ns) ns
le_greatest [] k d low = absurd (omega arith)
le_greatest (n ∷ ns) zero d low = omega arith
le_greatest (n ∷ ns) (suc k) d low = omega (arith, le_greatest ns k d (omega arith))

pub within_greatest : (ns : List ℕ) (last : ℕ) → last ≡ greatest ns → All (λ n. n ≤ last) ns
within_greatest ns last is k d low = omega (arith, le_greatest ns k d low, is)

room_allowed : (j : BoardJob) (h : History) (e : Entry) → WithinLimits j → AreFactories j.grid → Allowed j h e → HasRoom j.grid e
room_allowed j h (Claim p axis through state cells) limits factories allowed =
    let (s, at, takes) = allowed.product in
    (omega (arith, slice_get_within j.products p s at, limits.few_products), allowed.fits.ancilla)
room_allowed j h (Deliver p g) limits factories allowed = tt
room_allowed j h (Release p) limits factories allowed = tt
room_allowed j h (Step f) limits factories (store, has, room) = (factories f store has).0
room_allowed j h (Settle p flip) limits factories allowed = tt

-- each entry of a legal history has room
pub all_have_room : (j : BoardJob) (h : History) → WithinLimits j → AreFactories j.grid → Legal j h → All (HasRoom j.grid) h
all_have_room j h limits factories legal n d low = room_allowed j (take n h) (get_or h n d) limits factories (legal n (get_or h n d) (slice_get-get_or h n d low))

pub as_many : (j : BoardJob) (history : List Noted) (slices : List ℕ) → slices ≡ slices_of j (entries history) → length slices ≡ length history
as_many j history slices is = omega (arith, ap length is, length-map (sliced j (entries history)) (λ (e : Sliced). e.1), ap length (sliced_entries j (entries history)), length-map (sliced j (entries history)) (λ (e : Sliced). e.0), length-map history (λ (y : Noted). y.entry))

pub paired_is : (j : BoardJob) (h : History) (slices : List ℕ) → slices ≡ slices_of j h → paired h slices ≡ sliced j h
paired_is j h slices is = ap (λ l. paired l slices) (sym (sliced_entries j h)) ∙ ap (paired (entries_of (sliced j h))) is ∙ paired_all (sliced j h)

pub whole_text : (j : BoardJob) (h : History) (slices : List ℕ) (last : ℕ) (pages : List Page) → slices ≡ slices_of j h → last ≡ greatest slices → PagesAre j.grid (paired h slices) last pages → pages_text j.grid last pages ≡ slices_text j.grid (sliced j h)
whole_text j h slices last pages is last_is are =
    let P : List Sliced → Type 0 = λ d. PagesAre j.grid d last pages in
    pages_say j.grid (sliced j h) last pages (last_is ∙ ap greatest is) (subst P (paired_is j h slices is) are)
