-- Values and fields that are read one after another, as a loop does.
use Rattle.std.proofs.Common.{◌≡◌, ℕ, ◌+◌, ◌<◌, ◌≤◌, true, false, List, [], ◌∷◌, length, drop, get_or, Option, Some, None, refl, sym, ap, ◌∙◌}
use Rattle.std.specs.Prelude.{map}
use Rattle.std.specs.Borrow.{Bor}
use Rattle.std.proofs.lemmas.List.{drop_all, drop_more}
use Rattle.ak_base.specs.declared.limited.Limited.{Limited}
use Rattle.ak_message.specs.declared.kind.Kind.{Kind}
use Rattle.ak_input.specs.declared.parse_fault.ParseFault.{ParseFault}
use Rattle.ak_input.specs.declared.parse_fault.ParseFault.TheVariants as fault
use Rattle.ak_message.specs.Message.{MessageData}
use Rattle.ak_input.specs.Reading.{Got, GotValues, Built, value_with, with_value, fits, more_values, values_behind, values_added, field_behind, fields_behind}
use Rattle.ak_input.specs.ReadSeen.{Fails, seen}

-- the text at this place, and those behind it
rest_is : (texts : List (Bor (List ℕ))) (i : ℕ) (text d : Bor (List ℕ)) → i < length texts → text ≡ get_or texts i d
    → map seen (drop i texts) ≡ text.now ∷ map seen (drop (i + 1) texts)
rest_is texts i text d lt is =
    ap (λ (ts : List (Bor (List ℕ))). map seen ts) (drop_more texts i d lt) ∙ ap (λ (t : Bor (List ℕ)). t.now ∷ map seen (drop (i + 1) texts)) (sym is)

no_rest : (texts : List (Bor (List ℕ))) (i : ℕ) → length texts ≤ i → map seen (drop i texts) ≡ []
no_rest texts i le = ap (λ (ts : List (Bor (List ℕ))). map seen ts) (drop_all i texts le)

-- ---- the values of a field, added to a message

pub value_added : (message : List ℕ → Option Got) (name : List ℕ) (texts : List (Bor (List ℕ))) (i : ℕ) (text d : Bor (List ℕ)) (kind : Option Kind) (m after : Limited MessageData) (v : Got) (total : Option (Limited MessageData))
    → i < length texts → text ≡ get_or texts i d → value_with message text.now ≡ Some v → fits kind v.kind ≡ true → after ≡ with_value m name v.value
    → values_added message name (map seen (drop i texts)) kind m ≡ total
    → values_added message name (map seen (drop (i + 1) texts)) (Some v.kind) after ≡ total
unfolding values_added
value_added message name texts i text d kind m after v total lt is read same grown so_far =
    let one : values_added message name (map seen (drop i texts)) kind m ≡ values_added message name (map seen (drop (i + 1) texts)) (Some v.kind) (with_value m name v.value) =
    rw (rest_is texts i text d lt is, read, same) refl in
    rw grown (sym one ∙ so_far)

pub value_fails : (message : List ℕ → Option Got) (name : List ℕ) (texts : List (Bor (List ℕ))) (i : ℕ) (text d : Bor (List ℕ)) (kind : Option Kind) (m : Limited MessageData) (total : Option (Limited MessageData))
    → i < length texts → text ≡ get_or texts i d → value_with message text.now ≡ None
    → values_added message name (map seen (drop i texts)) kind m ≡ total → total ≡ None
unfolding values_added
value_fails message name texts i text d kind m total lt is read so_far =
    let one : values_added message name (map seen (drop i texts)) kind m ≡ None = rw (rest_is texts i text d lt is, read) refl in
    sym so_far ∙ one

pub value_reads_fail : (e : ParseFault) (message : List ℕ → Option Got) (name : List ℕ) (texts : List (Bor (List ℕ))) (i : ℕ) (text d : Bor (List ℕ)) (kind : Option Kind) (m : Limited MessageData) (total : Option (Limited MessageData))
    → i < length texts → text ≡ get_or texts i d → Fails e (value_with message text.now)
    → values_added message name (map seen (drop i texts)) kind m ≡ total → Fails e total
value_reads_fail fault.BadValue message name texts i text d kind m total lt is fails so_far = value_fails message name texts i text d kind m total lt is fails so_far
value_reads_fail fault.Limit message name texts i text d kind m total lt is fails so_far = absurd fails
value_reads_fail fault.NoMemory message name texts i text d kind m total lt is fails so_far = tt

pub kind_differs : (message : List ℕ → Option Got) (name : List ℕ) (texts : List (Bor (List ℕ))) (i : ℕ) (text d : Bor (List ℕ)) (kind : Option Kind) (m : Limited MessageData) (v : Got) (total : Option (Limited MessageData))
    → i < length texts → text ≡ get_or texts i d → value_with message text.now ≡ Some v → fits kind v.kind ≡ false
    → values_added message name (map seen (drop i texts)) kind m ≡ total → total ≡ None
unfolding values_added
kind_differs message name texts i text d kind m v total lt is read other so_far =
    let one : values_added message name (map seen (drop i texts)) kind m ≡ None = rw (rest_is texts i text d lt is, read, other) refl in
    sym so_far ∙ one

pub values_end : (message : List ℕ → Option Got) (name : List ℕ) (texts : List (Bor (List ℕ))) (i : ℕ) (kind : Option Kind) (m : Limited MessageData) (total : Option (Limited MessageData))
    → length texts ≤ i → values_added message name (map seen (drop i texts)) kind m ≡ total → total ≡ Some m
unfolding values_added
values_end message name texts i kind m total le so_far =
    let one : values_added message name (map seen (drop i texts)) kind m ≡ Some m = rw (no_rest texts i le) refl in
    sym so_far ∙ one

-- ---- the values of a field alone

pub value_joined : (message : List ℕ → Option Got) (texts : List (Bor (List ℕ))) (i : ℕ) (text d : Bor (List ℕ)) (read after : GotValues) (v : Got) (total : Option GotValues)
    → i < length texts → text ≡ get_or texts i d → value_with message text.now ≡ Some v → more_values read v ≡ Some after
    → values_behind message (map seen (drop i texts)) read ≡ total
    → values_behind message (map seen (drop (i + 1) texts)) after ≡ total
unfolding values_behind
value_joined message texts i text d read after v total lt is one more so_far =
    let step : values_behind message (map seen (drop i texts)) read ≡ values_behind message (map seen (drop (i + 1) texts)) after =
    rw (rest_is texts i text d lt is, one, more) refl in
    sym step ∙ so_far

pub value_unread : (message : List ℕ → Option Got) (texts : List (Bor (List ℕ))) (i : ℕ) (text d : Bor (List ℕ)) (read : GotValues) (total : Option GotValues)
    → i < length texts → text ≡ get_or texts i d → value_with message text.now ≡ None
    → values_behind message (map seen (drop i texts)) read ≡ total → total ≡ None
unfolding values_behind
value_unread message texts i text d read total lt is none so_far =
    let step : values_behind message (map seen (drop i texts)) read ≡ None = rw (rest_is texts i text d lt is, none) refl in
    sym so_far ∙ step

pub value_read_fails : (e : ParseFault) (message : List ℕ → Option Got) (texts : List (Bor (List ℕ))) (i : ℕ) (text d : Bor (List ℕ)) (read : GotValues) (total : Option GotValues)
    → i < length texts → text ≡ get_or texts i d → Fails e (value_with message text.now)
    → values_behind message (map seen (drop i texts)) read ≡ total → Fails e total
value_read_fails fault.BadValue message texts i text d read total lt is fails so_far = value_unread message texts i text d read total lt is fails so_far
value_read_fails fault.Limit message texts i text d read total lt is fails so_far = absurd fails
value_read_fails fault.NoMemory message texts i text d read total lt is fails so_far = tt

pub value_unlike : (message : List ℕ → Option Got) (texts : List (Bor (List ℕ))) (i : ℕ) (text d : Bor (List ℕ)) (read : GotValues) (v : Got) (total : Option GotValues)
    → i < length texts → text ≡ get_or texts i d → value_with message text.now ≡ Some v → more_values read v ≡ None
    → values_behind message (map seen (drop i texts)) read ≡ total → total ≡ None
unfolding values_behind
value_unlike message texts i text d read v total lt is one none so_far =
    let step : values_behind message (map seen (drop i texts)) read ≡ None = rw (rest_is texts i text d lt is, one, none) refl in
    sym so_far ∙ step

pub value_join_fails : (e : ParseFault) (message : List ℕ → Option Got) (texts : List (Bor (List ℕ))) (i : ℕ) (text d : Bor (List ℕ)) (read : GotValues) (v : Got) (total : Option GotValues)
    → i < length texts → text ≡ get_or texts i d → value_with message text.now ≡ Some v → Fails e (more_values read v)
    → values_behind message (map seen (drop i texts)) read ≡ total → Fails e total
value_join_fails fault.BadValue message texts i text d read v total lt is one fails so_far = value_unlike message texts i text d read v total lt is one fails so_far
value_join_fails fault.Limit message texts i text d read v total lt is one fails so_far = absurd fails
value_join_fails fault.NoMemory message texts i text d read v total lt is one fails so_far = tt

pub values_joined : (message : List ℕ → Option Got) (texts : List (Bor (List ℕ))) (i : ℕ) (read : GotValues) (total : Option GotValues)
    → length texts ≤ i → values_behind message (map seen (drop i texts)) read ≡ total → total ≡ Some read
unfolding values_behind
values_joined message texts i read total le so_far =
    let step : values_behind message (map seen (drop i texts)) read ≡ Some read = rw (no_rest texts i le) refl in
    sym so_far ∙ step

-- ---- fields

pub field_added : (message : List ℕ → Option Got) (words : List (Bor (List ℕ))) (i : ℕ) (word d : Bor (List ℕ)) (before after : Built) (total : Option Built)
    → i < length words → word ≡ get_or words i d → field_behind message before word.now ≡ Some after
    → fields_behind message (map seen (drop i words)) before ≡ total
    → fields_behind message (map seen (drop (i + 1) words)) after ≡ total
unfolding fields_behind
field_added message words i word d before after total lt is read so_far =
    let step : fields_behind message (map seen (drop i words)) before ≡ fields_behind message (map seen (drop (i + 1) words)) after =
    rw (rest_is words i word d lt is, read) refl in
    sym step ∙ so_far

pub field_fails : (message : List ℕ → Option Got) (words : List (Bor (List ℕ))) (i : ℕ) (word d : Bor (List ℕ)) (before : Built) (total : Option Built)
    → i < length words → word ≡ get_or words i d → field_behind message before word.now ≡ None
    → fields_behind message (map seen (drop i words)) before ≡ total → total ≡ None
unfolding fields_behind
field_fails message words i word d before total lt is none so_far =
    let step : fields_behind message (map seen (drop i words)) before ≡ None = rw (rest_is words i word d lt is, none) refl in
    sym so_far ∙ step

pub field_read_fails : (e : ParseFault) (message : List ℕ → Option Got) (words : List (Bor (List ℕ))) (i : ℕ) (word d : Bor (List ℕ)) (before : Built) (total : Option Built)
    → i < length words → word ≡ get_or words i d → Fails e (field_behind message before word.now)
    → fields_behind message (map seen (drop i words)) before ≡ total → Fails e total
field_read_fails fault.BadValue message words i word d before total lt is fails so_far = field_fails message words i word d before total lt is fails so_far
field_read_fails fault.Limit message words i word d before total lt is fails so_far = absurd fails
field_read_fails fault.NoMemory message words i word d before total lt is fails so_far = tt

pub fields_end : (message : List ℕ → Option Got) (words : List (Bor (List ℕ))) (i : ℕ) (built : Built) (total : Option Built)
    → length words ≤ i → fields_behind message (map seen (drop i words)) built ≡ total → total ≡ Some built
unfolding fields_behind
fields_end message words i built total le so_far =
    let step : fields_behind message (map seen (drop i words)) built ≡ Some built = rw (no_rest words i le) refl in
    sym so_far ∙ step
