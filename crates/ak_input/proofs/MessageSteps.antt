-- What reading a message or a field gives, by what its steps give.
use Rattle.std.proofs.Common.{◌≡◌, ℕ, List, [], ◌∷◌, Option, Some, None, refl, sym, subst, ◌∙◌}
use Rattle.std.specs.Prelude.{map}
use Rattle.std.specs.Borrow.{Bor}
use Rattle.ak_base.specs.declared.limited.Limited.{Limited}
use Rattle.ak_base.specs.declared.limited.Limited.TheVariants.{Within}
use Rattle.ak_input.specs.declared.pieces.Separator.TheVariants as by
use Rattle.ak_input.specs.declared.parse_fault.ParseFault.{ParseFault}
use Rattle.ak_input.specs.declared.parse_fault.ParseFault.TheVariants as fault
use Rattle.ak_message.specs.Message.{MessageData}
use Rattle.ak_input.specs.Pieces.{pieces_of}
use Rattle.ak_input.specs.Reading.{Got, Built, values_added, field_split, field_begun, field_behind, fields_behind, code_from, message_of}
use Rattle.ak_input.specs.ReadSeen.{Fails, seen}
use Rattle.ak_base.specs.Option.{◌>>=◌}

-- the first one fails
pub fails_first : {A B : Type 0} (e : ParseFault) (o : Option A) (f : A → Option B) → Fails e o → Fails e (o >>= f)
fails_first fault.BadValue o f h = rw h refl
fails_first fault.Limit o f h = absurd h
fails_first fault.NoMemory o f h = tt

-- ---- the words of a message

message_behind : (message : List ℕ → Option Got) (words : List (Bor (List ℕ))) (first : Bor (List ℕ)) (rest : List (Bor (List ℕ))) (what : ℕ) (names : List (List ℕ)) (m : Limited MessageData) → words ≡ first ∷ rest → code_from first.now ≡ Some what
    → names ≡ [] → m ≡ Within (record { what = what; fields = []; popped = 0 })
    → message_of message (map seen words) ≡ (fields_behind message (map seen rest) (record { names = names; message = m }) >>= λ built. Some built.message)
unfolding message_of
message_behind message words first rest what names m is code no_names made = rw (is, code, no_names, made) refl

pub fields_fail : (e : ParseFault) (message : List ℕ → Option Got) (words : List (Bor (List ℕ))) (first : Bor (List ℕ)) (rest : List (Bor (List ℕ))) (what : ℕ) (names : List (List ℕ)) (m : Limited MessageData) → words ≡ first ∷ rest → code_from first.now ≡ Some what
    → names ≡ [] → m ≡ Within (record { what = what; fields = []; popped = 0 })
    → Fails e (fields_behind message (map seen rest) (record { names = names; message = m })) → Fails e (message_of message (map seen words))
fields_fail e message words first rest what names m is code no_names made fails =
    subst (λ (o : Option (Limited MessageData)). Fails e o) (sym (message_behind message words first rest what names m is code no_names made))
    (fails_first e (fields_behind message (map seen rest) (record { names = names; message = m })) (λ built. Some built.message) fails)

pub message_is : (message : List ℕ → Option Got) (words : List (Bor (List ℕ))) (first : Bor (List ℕ)) (rest : List (Bor (List ℕ))) (what : ℕ) (names : List (List ℕ)) (m : Limited MessageData) (built : Built) → words ≡ first ∷ rest → code_from first.now ≡ Some what
    → names ≡ [] → m ≡ Within (record { what = what; fields = []; popped = 0 })
    → fields_behind message (map seen rest) (record { names = names; message = m }) ≡ Some built → message_of message (map seen words) ≡ Some built.message
message_is message words first rest what names m built is code no_names made read =
    message_behind message words first rest what names m is code no_names made ∙ rw read refl

-- ---- one field

pub field_is : (message : List ℕ → Option Got) (b begun after : Built) (word name text : List ℕ) (texts shown : List (Bor (List ℕ))) (m : Limited MessageData) → field_split word ≡ Some (name, text) → field_begun b name ≡ Some begun
    → pieces_of by.Comma text ≡ Some (map seen texts) → shown ≡ texts → values_added message name (map seen shown) None begun.message ≡ Some m → after ≡ record { names = begun.names; message = m }
    → field_behind message b word ≡ Some after
unfolding field_behind
field_is message b begun after word name text texts shown m is one parts same added after_is =
    let inner : values_added message name (map seen texts) None begun.message ≡ Some m = subst (λ (ts : List (Bor (List ℕ))). values_added message name (map seen ts) None begun.message ≡ Some m) same added in
    rw after_is (rw is (rw one (rw parts (rw inner refl))))
