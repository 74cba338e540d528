-- The entries of all objects, object by object.
use Rattle.std.proofs.Common.{◌≡◌, ◌≢◌, ◌∙◌, ℕ, zero, suc, ◌+◌, ◌<◌, Bool, List, [], ◌∷◌, ◌++◌, map, filter, Option, None, Some, option_map, unwrap_or, slice_get, refl, ap, append-nil, arith, eq-eqb, ne_eqb}
use Rattle.std.proofs.lemmas.List.Elements.{filter-append}
use Rattle.ak_roster.specs.declared.entry.RosterEntry.{RosterEntry}
use Rattle.ak_port.specs.declared.port_entry.PortEntry.{PortEntry}
use Rattle.ak_port.specs.declared.reply_entry.ReplyEntry.{ReplyEntry}
use Rattle.ak_port.specs.PortCalls.{PortData}
use Rattle.ak_desk.specs.Desk.{DeskData}
use Rattle.ak_desk.specs.Entry.{EntryData}
use Rattle.ak_diary.specs.declared.histories.Histories.{Histories}
use Rattle.ak_journal.specs.declared.entry.Entry.{Entry}
use Rattle.ak_journal.specs.declared.entry.ObjectName.{ObjectName}
use Rattle.ak_journal.specs.declared.entry.ObjectName.TheVariants as object
use Rattle.ak_sequence.specs.Laws.{entries_at, is_at}
use Rattle.ak_world.specs.Merged.{book_entry, desk_entries, desk_entry, each_from, entries_of, port_entries, port_entry, roster_entry}
use Rattle.ak_sequence.proofs.Kept.{all_kept, none_kept}

module _ {T : Type 0} (list : ℕ → T → List Entry) (p : Entry → Bool) where
  none_of_each : ((number : ℕ) (thing : T) → filter p (list number thing) ≡ []) → (number : ℕ) (things : List T) → filter p (each_from list number things) ≡ []
  none_of_each none number [] = refl
  none_of_each none number (thing ∷ things) =
      filter-append p (list number thing) (each_from list (suc number) things)
      ∙ ap (λ (l : List Entry). l ++ filter p (each_from list (suc number) things)) (none number thing)
      ∙ none_of_each none (suc number) things

  -- those of the thing with that number alone
  abbrev of_one : ℕ → Option T → List Entry
  of_one looper None = []
  of_one looper (Some thing) = list looper thing

  module _ (looper : ℕ) (own : (thing : T) → filter p (list looper thing) ≡ list looper thing) (other : (number : ℕ) (thing : T) → looper ≢ number → filter p (list number thing) ≡ []) where
    none_past : (number : ℕ) (things : List T) → looper < number → filter p (each_from list number things) ≡ []
    none_past number [] lt = refl
    none_past number (thing ∷ things) lt =
        filter-append p (list number thing) (each_from list (suc number) things)
        ∙ ap (λ (l : List Entry). l ++ filter p (each_from list (suc number) things)) (other number thing (λ e. absurd (omega (arith, e))))
        ∙ none_past (suc number) things (omega arith)

    one_from : (number place : ℕ) (things : List T) → looper ≡ place + number → filter p (each_from list number things) ≡ of_one looper (slice_get things place)
    one_from number place [] e = refl
    one_from number zero (thing ∷ things) e =
        let here : number ≡ looper = omega arith in
        filter-append p (list number thing) (each_from list (suc number) things)
        ∙ ap (λ (l : List Entry). filter p (list number thing) ++ l) (none_past (suc number) things (omega arith))
        ∙ append-nil (filter p (list number thing))
        ∙ ap (λ (n : ℕ). filter p (list n thing)) here
        ∙ own thing
    one_from number (suc place) (thing ∷ things) e =
        filter-append p (list number thing) (each_from list (suc number) things)
        ∙ ap (λ (l : List Entry). l ++ filter p (each_from list (suc number) things)) (other number thing (λ same. absurd (omega (arith, same, e))))
        ∙ one_from (suc number) place things (omega arith)

    pub one_of_each : (things : List T) → filter p (each_from list 0 things) ≡ of_one looper (slice_get things looper)
    one_of_each things = one_from 0 looper things (omega arith)

-- of the four kinds
four : (p : Entry → Bool) (a b c d : List Entry) → filter p (a ++ (b ++ (c ++ d))) ≡ filter p a ++ (filter p b ++ (filter p c ++ filter p d))
four p a b c d =
    filter-append p a (b ++ (c ++ d))
    ∙ ap (λ (l : List Entry). filter p a ++ l) (filter-append p b (c ++ d) ∙ ap (λ (l : List Entry). filter p b ++ l) (filter-append p c d))

four_are : (a b c d a' b' c' d' : List Entry) → a ≡ a' → b ≡ b' → c ≡ c' → d ≡ d' → a ++ (b ++ (c ++ d)) ≡ a' ++ (b' ++ (c' ++ d'))
four_are a b c d a' b' c' d' p q r s = cc

abbrev book_named : ReplyEntry → Entry
book_named entry = book_entry object.Book entry

abbrev port_named : ℕ → PortEntry → Entry
port_named number entry = port_entry (object.Port number) entry

abbrev desk_named : ℕ → EntryData → Entry
desk_named number entry = desk_entry (object.Desk number) entry.plain

port_of_one : (looper : ℕ) (o : Option PortData) → of_one port_entries (is_at (object.Port looper)) looper o ≡ map (port_named looper) (unwrap_or (option_map (λ (port : PortData). port.entries) o) [])
port_of_one looper None = refl
port_of_one looper (Some port) = refl

desk_of_one : (looper : ℕ) (o : Option DeskData) → of_one desk_entries (is_at (object.Desk looper)) looper o ≡ map (desk_named looper) (unwrap_or (option_map (λ (desk : DeskData). desk.entries) o) [])
desk_of_one looper None = refl
desk_of_one looper (Some desk) = refl

-- the entries at an object are that object's
pub at_object : (h : Histories) (name : ObjectName) → filter (is_at name) (entries_of h) ≡ entries_at h name
at_object h object.Roster =
    let p = is_at object.Roster in
    four p (map roster_entry h.roster.items) (map book_named h.book) (each_from port_entries 0 h.ports.items) (each_from desk_entries 0 h.desks.items)
    ∙ four_are _ _ _ _ (map roster_entry h.roster.items) [] [] []
    (all_kept p roster_entry (λ (e : RosterEntry). refl) h.roster.items)
    (none_kept p book_named (λ (e : ReplyEntry). refl) h.book)
    (none_of_each port_entries p (λ (n : ℕ) (port : PortData). none_kept p (port_named n) (λ (e : PortEntry). refl) port.entries) 0 h.ports.items)
    (none_of_each desk_entries p (λ (n : ℕ) (desk : DeskData). none_kept p (desk_named n) (λ (e : EntryData). refl) desk.entries) 0 h.desks.items)
    ∙ append-nil (map roster_entry h.roster.items)
at_object h object.Book =
    let p = is_at object.Book in
    four p (map roster_entry h.roster.items) (map book_named h.book) (each_from port_entries 0 h.ports.items) (each_from desk_entries 0 h.desks.items)
    ∙ four_are _ _ _ _ [] (map book_named h.book) [] []
    (none_kept p roster_entry (λ (e : RosterEntry). refl) h.roster.items)
    (all_kept p book_named (λ (e : ReplyEntry). refl) h.book)
    (none_of_each port_entries p (λ (n : ℕ) (port : PortData). none_kept p (port_named n) (λ (e : PortEntry). refl) port.entries) 0 h.ports.items)
    (none_of_each desk_entries p (λ (n : ℕ) (desk : DeskData). none_kept p (desk_named n) (λ (e : EntryData). refl) desk.entries) 0 h.desks.items)
    ∙ append-nil (map book_named h.book)
at_object h (object.Port looper) =
    let p = is_at (object.Port looper) in
    four p (map roster_entry h.roster.items) (map book_named h.book) (each_from port_entries 0 h.ports.items) (each_from desk_entries 0 h.desks.items)
    ∙ four_are _ _ _ _ [] [] (map (port_named looper) (unwrap_or (option_map (λ (port : PortData). port.entries) (slice_get h.ports.items looper)) [])) []
    (none_kept p roster_entry (λ (e : RosterEntry). refl) h.roster.items)
    (none_kept p book_named (λ (e : ReplyEntry). refl) h.book)
    (one_of_each port_entries p looper (λ (port : PortData). all_kept p (port_named looper) (λ (e : PortEntry). eq-eqb looper looper refl) port.entries)
    (λ (n : ℕ) (port : PortData) (ne : looper ≢ n). none_kept p (port_named n) (λ (e : PortEntry). ne_eqb looper n ne) port.entries) h.ports.items
    ∙ port_of_one looper (slice_get h.ports.items looper))
    (none_of_each desk_entries p (λ (n : ℕ) (desk : DeskData). none_kept p (desk_named n) (λ (e : EntryData). refl) desk.entries) 0 h.desks.items)
    ∙ append-nil (map (port_named looper) (unwrap_or (option_map (λ (port : PortData). port.entries) (slice_get h.ports.items looper)) []))
at_object h (object.Desk looper) =
    let p = is_at (object.Desk looper) in
    four p (map roster_entry h.roster.items) (map book_named h.book) (each_from port_entries 0 h.ports.items) (each_from desk_entries 0 h.desks.items)
    ∙ four_are _ _ _ _ [] [] [] (map (desk_named looper) (unwrap_or (option_map (λ (desk : DeskData). desk.entries) (slice_get h.desks.items looper)) []))
    (none_kept p roster_entry (λ (e : RosterEntry). refl) h.roster.items)
    (none_kept p book_named (λ (e : ReplyEntry). refl) h.book)
    (none_of_each port_entries p (λ (n : ℕ) (port : PortData). none_kept p (port_named n) (λ (e : PortEntry). refl) port.entries) 0 h.ports.items)
    (one_of_each desk_entries p looper (λ (desk : DeskData). all_kept p (desk_named looper) (λ (e : EntryData). eq-eqb looper looper refl) desk.entries)
    (λ (n : ℕ) (desk : DeskData) (ne : looper ≢ n). none_kept p (desk_named n) (λ (e : EntryData). ne_eqb looper n ne) desk.entries) h.desks.items
    ∙ desk_of_one looper (slice_get h.desks.items looper))
