-- Why a call is refused: the number of each reason, and which reason comes first.
use Rattle.std.specs.Prelude.{◌≡◌, ℕ, ◌<◌, ◌⊎◌, List, [], ◌∷◌, Some, None, Ok, Err, Result}
use Rattle.net.specs.declared.refusal.Refusal.{Refusal}
use Rattle.net.specs.declared.refusal.Refusal.TheVariants.{PartialRecord, MalformedRecord, UndeclaredPlace, OverLimit, Unfit, UnknownSide, OutOfRange, TooFewTokens, CrewsApart, TooManyTokens, ShortList, UnlawfulSheet, UnknownLine}
use Rattle.net.specs.declared.refusal.Fault.{Fault}

abbrev pub number_of : Refusal → ℕ
number_of PartialRecord = 1
number_of MalformedRecord = 2
number_of UndeclaredPlace = 3
number_of OverLimit = 4
number_of Unfit = 5
number_of UnknownSide = 6
number_of OutOfRange = 7
number_of TooFewTokens = 8
number_of CrewsApart = 9
number_of TooManyTokens = 10
number_of ShortList = 11
number_of UnlawfulSheet = 12
number_of UnknownLine = 13

-- the fault of a refusal that names no spot
abbrev pub plain : Refusal → Fault
plain r = record { refusal = r; spot = None }

-- the fault of a refusal at a spot
abbrev pub at_spot : Refusal → ℕ → Fault
at_spot r k = record { refusal = r; spot = Some k }

-- A reason for which a call can be refused: the fault that it gives, and when it is met.
pub record Row : Type 1 where
  pub fault : Fault
  pub met : Type 0

-- a reason that names no spot
abbrev pub when : Refusal → Type 0 → Row
when r met = record { fault = plain r; met = met }

-- f is the fault of the first reason that is met
abbrev pub First : List Row → Fault → Type 0
First [] f = ⊥
First (w ∷ rows) f = (w.met × (w.fault ≡ f)) ⊎ (¬ w.met × First rows f)

-- none is met
abbrev pub Free : List Row → Type 0
Free [] = Unit {0}
Free (w ∷ rows) = ¬ w.met × Free rows

-- the answer of a test of these reasons: the first fault, or that none is met
abbrev pub Tried : List Row → Result (Unit {0}) Fault → Type 0
Tried rows (Ok _) = Free rows
Tried rows (Err f) = First rows f

-- the reasons stand in the order of their numbers, all above n
abbrev pub Rising : ℕ → List Row → Type 0
Rising n [] = Unit {0}
Rising n (w ∷ rows) = (n < number_of w.fault.refusal) × Rising (number_of w.fault.refusal) rows
