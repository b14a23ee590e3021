-- Laws of commuting and of conjugation, over products on n qubits.
use Rattle.std.specs.Prelude.{◌≡◌, ℕ, ◌+◌, ◌%◌, ◌==◌, Bool, true, false, List, ◌∷◌, ◌++◌}
use Rattle.pauli_product.specs.Signed.{Signed, plus, OfLength, IsNotIdentity, commute, clashes, letters_product, phase, real_product}
use Rattle.pauli_product.specs.Pulls.{Angle, Turn, turn, TurnsOfLength, i_times, negated, moved, conj, pull, carry, About, SameAngles}
use Rattle.pauli_product.specs.Corrections.{turn_if, corrections}

-- whether two products commute doesn't depend on their order
abbrev pub CommutingIsMutual : Type 0
CommutingIsMutual = (p q : Signed) → commute p q ≡ commute q p

-- products that clash on an even number of qubits commute
abbrev pub EvenClashesCommute : Type 0
EvenClashesCommute = (p q : Signed) → clashes p.letters q.letters % 2 ≡ 0 → commute p q ≡ true

-- and those that clash on an odd number don't
abbrev pub OddClashesDont : Type 0
OddClashesDont = (p q : Signed) → clashes p.letters q.letters % 2 ≡ 1 → commute p q ≡ false

-- two products commute exactly where their conjugates do
abbrev pub CommutingIsKept : Type 0
CommutingIsKept = (n : ℕ) (q : Signed) (a : Angle) (p r : Signed) →
    OfLength n q → OfLength n p → OfLength n r →
    commute (conj q a p) (conj q a r) ≡ commute p r

-- a conjugation leaves a product that commutes with the axis as it is
abbrev pub ConjugationIsIdle : Type 0
ConjugationIsIdle = (q : Signed) (a : Angle) (p : Signed) → commute q p ≡ true → conj q a p ≡ p

-- and moves one that doesn't
abbrev pub ConjugationMoves : Type 0
ConjugationMoves = (q : Signed) (a : Angle) (p : Signed) → commute q p ≡ false → conj q a p ≡ moved q a p

-- a conjugate is a product on as many qubits
abbrev pub ConjugationKeepsLength : Type 0
ConjugationKeepsLength = (n : ℕ) (q : Signed) (a : Angle) (p : Signed) →
    OfLength n q → OfLength n p → OfLength n (conj q a p)

-- it has a letter other than I where the product has one
abbrev pub ConjugationKeepsLetters : Type 0
ConjugationKeepsLetters = (q : Signed) (a : Angle) (p : Signed) → IsNotIdentity p → IsNotIdentity (conj q a p)

-- a conjugation acts on the axis and on the product of a conjugation
abbrev pub ConjugationCarries : Type 0
ConjugationCarries = (n : ℕ) (q : Signed) (a : Angle) (r : Signed) (b : Angle) (p : Signed) →
    OfLength n q → OfLength n r → OfLength n p →
    conj q a (conj r b p) ≡ conj (conj q a r) b (conj q a p)

-- conjugations about axes that commute change places
abbrev pub ConjugationsExchange : Type 0
ConjugationsExchange = (n : ℕ) (q : Signed) (a : Angle) (r : Signed) (b : Angle) (p : Signed) →
    OfLength n q → OfLength n r → OfLength n p → commute q r ≡ true →
    conj q a (conj r b p) ≡ conj r b (conj q a p)

-- a pull through a list that is cut in two goes through the later part first
abbrev pub PullIsCut : Type 0
PullIsCut = (ts us : List Turn) (p : Signed) → pull (ts ++ us) p ≡ pull ts (pull us p)

-- what is pulled is a product on as many qubits
abbrev pub PullKeepsLength : Type 0
PullKeepsLength = (n : ℕ) (ts : List Turn) (p : Signed) → TurnsOfLength n ts → OfLength n p → OfLength n (pull ts p)

-- it has a letter other than I where the product has one
abbrev pub PullKeepsLetters : Type 0
PullKeepsLetters = (ts : List Turn) (p : Signed) → IsNotIdentity p → IsNotIdentity (pull ts p)

-- a turn in the middle of a list acts last, about its axis pulled through those before it
abbrev pub TurnActsLast : Type 0
TurnActsLast = (n : ℕ) (before later : List Turn) (q : Signed) (a : Angle) (p : Signed) →
    TurnsOfLength n before → TurnsOfLength n later → OfLength n q → OfLength n p →
    pull (before ++ turn q a ∷ later) p ≡ conj (pull before q) a (pull (before ++ later) p)

-- a pull acts on the axis and on the product of a conjugation
abbrev pub PullCarries : Type 0
PullCarries = (n : ℕ) (before : List Turn) (b : Signed) (a : Angle) (p : Signed) →
    TurnsOfLength n before → OfLength n b → OfLength n p →
    pull before (conj b a p) ≡ conj (pull before b) a (pull before p)

-- turns about an axis, pulled through earlier turns, are turns about the pulled axis
abbrev pub PullOfTurns : Type 0
PullOfTurns = (n : ℕ) (before : List Turn) (b : Signed) (ts us : List Turn) (p : Signed) →
    TurnsOfLength n before → OfLength n b → OfLength n p → SameAngles (pull before b) b ts us →
    pull before (pull us p) ≡ pull ts (pull before p)

-- after a pull, corrections about a pulled axis do what turns about the axis itself do at its end
abbrev pub PullIsCorrected : Type 0
PullIsCorrected = (n : ℕ) (before : List Turn) (b : Signed) (ts us : List Turn) (p : Signed) →
    TurnsOfLength n before → OfLength n b → OfLength n p → SameAngles (pull before b) b ts us →
    carry ts (pull before p) ≡ pull (before ++ us) p

-- corrections in two lists act as those of the first and then those of the second
abbrev pub CarryIsCut : Type 0
CarryIsCut = (ts us : List Turn) (p : Signed) → carry (ts ++ us) p ≡ carry us (carry ts p)

-- a corrected product is one on as many qubits
abbrev pub CarryKeepsLength : Type 0
CarryKeepsLength = (n : ℕ) (ts : List Turn) (p : Signed) → TurnsOfLength n ts → OfLength n p → OfLength n (carry ts p)

-- it has a letter other than I where the product has one
abbrev pub CarryKeepsLetters : Type 0
CarryKeepsLetters = (ts : List Turn) (p : Signed) → IsNotIdentity p → IsNotIdentity (carry ts p)

-- two products commute exactly where they do after the same corrections
abbrev pub CarryKeepsCommuting : Type 0
CarryKeepsCommuting = (n : ℕ) (ts : List Turn) (p q : Signed) →
    TurnsOfLength n ts → OfLength n p → OfLength n q → commute (carry ts p) (carry ts q) ≡ commute p q

-- corrections about an axis leave a product that commutes with it as it is
abbrev pub CarryIsIdle : Type 0
CarryIsIdle = (a : Signed) (ts : List Turn) (p : Signed) → About a ts → commute a p ≡ true → carry ts p ≡ p

-- corrections about axes that commute change places
abbrev pub CarriesExchange : Type 0
CarriesExchange = (n : ℕ) (a : Signed) (ts : List Turn) (b : Signed) (us : List Turn) (p : Signed) →
    OfLength n a → OfLength n b → OfLength n p → About a ts → About b us → commute a b ≡ true →
    carry ts (carry us p) ≡ carry us (carry ts p)

-- corrections of the product of two that commute
abbrev pub CarryOfRealProduct : Type 0
CarryOfRealProduct = (n : ℕ) (ts : List Turn) (r p : Signed) →
    TurnsOfLength n ts → OfLength n r → OfLength n p → commute r p ≡ true →
    carry ts (real_product r p) ≡ real_product (carry ts r) (carry ts p)

-- of i times the product of two that don't
abbrev pub CarryOfITimes : Type 0
CarryOfITimes = (n : ℕ) (ts : List Turn) (r p : Signed) →
    TurnsOfLength n ts → OfLength n r → OfLength n p → commute r p ≡ false →
    carry ts (i_times r p) ≡ i_times (carry ts r) (carry ts p)

-- and of a product with the other sign
abbrev pub CarryOfNegated : Type 0
CarryOfNegated = (ts : List Turn) (p : Signed) → carry ts (negated p) ≡ negated (carry ts p)

-- p times i x z, where x and z don't commute, from one factor at a time
abbrev pub RealOfThree : Type 0
RealOfThree = (n : ℕ) (p x z : Signed) → OfLength n p → OfLength n x → OfLength n z → commute x z ≡ false →
    let half_way = letters_product p.letters x.letters in
    real_product p (i_times x z) ≡ record {
      sign = (1 + phase p x + phase (plus half_way) z) % 4 == 2;
      letters = letters_product half_way z.letters;
    }

-- a turn, where there is one, has the same angle about each axis
abbrev pub TurnsAreAlike : Type 0
TurnsAreAlike = (x : Bool) (a b : Signed) (g : Angle) → SameAngles a b (turn_if x a g) (turn_if x b g)

-- a rotation's corrections have the same angles about each axis
abbrev pub CorrectionsAreAlike : Type 0
CorrectionsAreAlike = (e a b : Signed) (raw x : Bool) →
    SameAngles a b (corrections e a raw x) (corrections e b raw x)

-- lists of the same angles are each about its own axis
abbrev pub AlikeAreAbout : Type 0
AlikeAreAbout = (a b : Signed) (ts us : List Turn) → SameAngles a b ts us → About a ts × About b us

-- and stay alike when more of them follow
abbrev pub AlikeAreJoined : Type 0
AlikeAreJoined = (a b : Signed) (ts us vs ws : List Turn) →
    SameAngles a b ts us → SameAngles a b vs ws → SameAngles a b (ts ++ vs) (us ++ ws)

-- turns about an axis on n qubits are turns on n qubits
abbrev pub TurnsAboutAreLong : Type 0
TurnsAboutAreLong = (n : ℕ) (a : Signed) (ts : List Turn) → OfLength n a → About a ts → TurnsOfLength n ts

-- turns about an axis in two lists
abbrev pub AboutIsJoined : Type 0
AboutIsJoined = (a : Signed) (ts us : List Turn) → About a ts → About a us → About a (ts ++ us)

-- turns on n qubits in two lists
abbrev pub TurnsAreJoined : Type 0
TurnsAreJoined = (n : ℕ) (ts us : List Turn) → TurnsOfLength n ts → TurnsOfLength n us → TurnsOfLength n (ts ++ us)
