-- The laws that crates above cite.
use Rattle.std.proofs.Common.{sym, ◌∙◌}
use Rattle.pauli_product.specs.Laws.{TurnsAreJoined, AboutIsJoined, OddClashesDont, EvenClashesCommute, CommutingIsMutual, CommutingIsKept, ConjugationIsIdle, ConjugationMoves, ConjugationKeepsLength, ConjugationKeepsLetters, ConjugationCarries, ConjugationsExchange, PullIsCut, PullKeepsLength, PullKeepsLetters, TurnActsLast, PullCarries, PullOfTurns, PullIsCorrected, CarryIsCut, CarryKeepsLength, CarryKeepsLetters, CarryKeepsCommuting, CarryIsIdle, CarriesExchange, CarryOfRealProduct, CarryOfITimes, CarryOfNegated, RealOfThree, TurnsAreAlike, CorrectionsAreAlike, AlikeAreAbout, AlikeAreJoined, TurnsAboutAreLong}
use Rattle.pauli_product.proofs.Algebra.{commute_from_even, commute_from_odd, commute_swap, conj_keeps, conj_commuting, conj_moved, length_conj, conj_conj, conj_exchange}
use Rattle.pauli_product.proofs.Turns as turns
use Rattle.pauli_product.proofs.Products as products
use Rattle.pauli_product.proofs.Letters as letters

pub commuting_mutual : CommutingIsMutual
commuting_mutual = commute_swap

pub commuting_kept : CommutingIsKept
commuting_kept = conj_keeps

pub conj_idle : ConjugationIsIdle
conj_idle = conj_commuting

pub conj_moves : ConjugationMoves
conj_moves = conj_moved

pub conj_length : ConjugationKeepsLength
conj_length = length_conj

pub conj_letters : ConjugationKeepsLetters
conj_letters = letters.conj_letters

pub conj_carries : ConjugationCarries
conj_carries = conj_conj

pub conjs_exchange : ConjugationsExchange
conjs_exchange = conj_exchange

pub pull_cut : PullIsCut
pull_cut = turns.pull-append

pub pull_length : PullKeepsLength
pull_length = turns.length_pull

pub pull_letters : PullKeepsLetters
pull_letters = letters.pull_letters

pub turn_last : TurnActsLast
turn_last = turns.pull_middle

pub pull_carries : PullCarries
pull_carries = turns.pull_conj

pub pull_turns : PullOfTurns
pull_turns = turns.pull_through

pub pull_corrected : PullIsCorrected
pull_corrected = turns.pull_executed

pub carry_cut : CarryIsCut
carry_cut = turns.carry-append

pub carry_length : CarryKeepsLength
carry_length = turns.length_carry

pub carry_letters : CarryKeepsLetters
carry_letters = letters.carry_letters

pub carry_commuting : CarryKeepsCommuting
carry_commuting = turns.carry_keeps

pub carry_idle : CarryIsIdle
carry_idle = turns.carry_idle

pub carries_exchange : CarriesExchange
carries_exchange = turns.carries_exchange

pub carry_real : CarryOfRealProduct
carry_real = products.carry_real

pub carry_i_times : CarryOfITimes
carry_i_times = products.carry_i_times

pub carry_negated : CarryOfNegated
carry_negated = products.carry_negated

pub real_of_three : RealOfThree
real_of_three = λ n p x z e f g c. products.real_of_three p x z (f ∙ sym e) (g ∙ sym e) c

pub turns_alike : TurnsAreAlike
turns_alike = turns.same_if

pub corrections_alike : CorrectionsAreAlike
corrections_alike = turns.same_corrections

pub alike_about : AlikeAreAbout
alike_about = turns.same_angles_about

pub alike_joined : AlikeAreJoined
alike_joined = turns.SameAngles-append

pub about_long : TurnsAboutAreLong
about_long = turns.turns_about

pub clashes_even : EvenClashesCommute
clashes_even = commute_from_even

pub clashes_odd : OddClashesDont
clashes_odd = commute_from_odd

pub about_joined : AboutIsJoined
about_joined = turns.About-append

pub turns_joined : TurnsAreJoined
turns_joined = turns.turns_append
