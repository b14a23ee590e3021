-- What the feeder keeps.
use Rattle.std.proofs.Common.{◌≡◌, Bool, true, false, List, [], ◌∷◌, ◌++◌, sym, ap, ◌∙◌, append_assoc, append-nil}
use Rattle.arrival_line.specs.declared.arrival.Arrival.{Arrival}
use Rattle.arrival_line.specs.declared.arrival.Message.{Message}
use Rattle.arrival_line.specs.declared.arrival.Message.TheVariants.{Arrived, End}
use Rattle.arrival_line.specs.declared.arrival.Traffic.{Traffic}
use Rattle.arrival_line.specs.Line.{traffic}
use Rattle.arrival_line.specs.Messages.{arrivals, is_open}
use Rattle.arrival_line.proofs.Words.{arrivals-append, open-snoc, closed-snoc}

pub may_send : (v : Traffic) (s g : List Message) (b : Bool) → v ≡ traffic true b s g → v.sends ≡ true
may_send v s g b h = ap (λ (u : Traffic). u.sends) h

pub may_receive : (v : Traffic) (s g : List Message) (b : Bool) → v ≡ traffic b true s g → v.receives ≡ true
may_receive v s g b h = ap (λ (u : Traffic). u.receives) h

-- a sender stays one
pub sent_role : (v w : Traffic) (m : Message) → v ≡ traffic true false v.sent [] → w ≡ traffic v.sends v.receives (v.sent ++ m ∷ []) v.got → w ≡ traffic true false w.sent []
sent_role v w m is after =
    after ∙ (λ i. traffic (is i).sends (is i).receives (v.sent ++ m ∷ []) (is i).got) ∙ ap (λ s. traffic true false s []) (sym (ap (λ (u : Traffic). u.sent) after))

pub sent_open : (v w : Traffic) (a : Arrival) → is_open v.sent ≡ true → w ≡ traffic v.sends v.receives (v.sent ++ Arrived a ∷ []) v.got → is_open w.sent ≡ true
sent_open v w a unended after = ap (λ (u : Traffic). is_open u.sent) after ∙ open-snoc v.sent a unended

pub sent_all : (v w : Traffic) (a : Arrival) (all left left' : List Arrival) → all ≡ arrivals v.sent ++ left → left ≡ a ∷ left' → w ≡ traffic v.sends v.receives (v.sent ++ Arrived a ∷ []) v.got → all ≡ arrivals w.sent ++ left'
sent_all v w a all left left' is took after =
    is ∙ ap (λ l. arrivals v.sent ++ l) took ∙ sym (append_assoc (arrivals v.sent) (a ∷ []) left') ∙ ap (λ l. l ++ left') (sym (ap (λ (u : Traffic). arrivals u.sent) after ∙ arrivals-append v.sent (Arrived a ∷ [])))

pub ended_all : (v w : Traffic) → w ≡ traffic v.sends v.receives (v.sent ++ End ∷ []) v.got → arrivals w.sent ≡ arrivals v.sent ++ []
ended_all v w after = ap (λ (u : Traffic). arrivals u.sent) after ∙ arrivals-append v.sent (End ∷ [])

pub ended_closed : (v w : Traffic) → w ≡ traffic v.sends v.receives (v.sent ++ End ∷ []) v.got → is_open w.sent ≡ false
ended_closed v w after = ap (λ (u : Traffic). is_open u.sent) after ∙ closed-snoc v.sent

pub ended_split : (v w : Traffic) (left : List Arrival) → left ≡ [] → w ≡ traffic v.sends v.receives (v.sent ++ End ∷ []) v.got → arrivals v.sent ≡ (arrivals w.sent ++ []) ++ left
ended_split v w left none after =
    sym (ap (λ l. (arrivals w.sent ++ []) ++ l) none ∙ append-nil (arrivals w.sent ++ []) ∙ append-nil (arrivals w.sent) ∙ ended_all v w after ∙ append-nil (arrivals v.sent))

-- a receiver stays one
pub got_role : (v w : Traffic) (m : Message) → v ≡ traffic false true [] v.got → w ≡ traffic v.sends v.receives v.sent (v.got ++ m ∷ []) → w ≡ traffic false true [] w.got
got_role v w m is after =
    after ∙ (λ i. traffic (is i).sends (is i).receives (is i).sent (v.got ++ m ∷ [])) ∙ ap (λ g. traffic false true [] g) (sym (ap (λ (u : Traffic). u.got) after))

pub same_role : (v w : Traffic) → v ≡ traffic false true [] v.got → w ≡ v → w ≡ traffic false true [] w.got
same_role v w is same = same ∙ is ∙ ap (λ (u : Traffic). traffic false true [] u.got) (sym same)

pub same_got : (v w : Traffic) → w ≡ v → w.got ≡ v.got ++ []
same_got v w same = ap (λ (u : Traffic). u.got) same ∙ sym (append-nil v.got)
