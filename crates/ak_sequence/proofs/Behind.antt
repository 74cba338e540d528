-- Where main stays behind a session in the list of each object, it does in the merged list.
use Rattle.std.proofs.Common.{◌≡◌, ◌≢◌, ◌∙◌, ℕ, ◌<◌, Bool, true, false, cond, List, [], ◌∷◌, ◌++◌, map, filter, All, refl, sym, ap, subst}
use Rattle.std.proofs.lemmas.List.Elements.{All-cons, All-head, All-map, All-nil, All-weaker, filter-append}
use Rattle.ak_base.specs.Thread.{main_thread}
use Rattle.ak_port.specs.declared.port_entry.PortEntry.{PortEntry}
use Rattle.ak_port.specs.declared.reply_entry.ReplyEntry.{ReplyEntry}
use Rattle.ak_desk.specs.Entry.{EntryData}
use Rattle.ak_diary.specs.declared.histories.Histories.{Histories}
use Rattle.ak_headline.specs.Run.{MainIsBehind, StandsBehind, desk_list, port_list}
use Rattle.ak_journal.specs.declared.entry.Entry.{Entry}
use Rattle.ak_journal.specs.declared.entry.ObjectName.{ObjectName}
use Rattle.ak_journal.specs.declared.entry.ObjectName.TheVariants as object
use Rattle.ak_sequence.specs.Laws.{MergedHasEachHistory, MergedIsBehind, entries_at, is_at, is_same}
use Rattle.ak_world.specs.Merged.{book_entry, desk_entry, port_entry, roster_entry, stamp_of, thread_of}
use Rattle.ak_sequence.proofs.Diaries.{at_itself, first_there}
use Rattle.ak_sequence.proofs.Runs.{rest_if}

-- ---- a list of named things, in parts
record NamedParts {L : Type 0} (f : L → Entry) (xs : List L) (e : Entry) (behind : List Entry) : Type 0 where
  first : List L
  x : L
  rest : List L
  is : xs ≡ first ++ x ∷ rest
  named : f x ≡ e
  behind_is : map f rest ≡ behind

parts_more : {L : Type 0} (f : L → Entry) (x : L) (xs : List L) (e : Entry) (behind : List Entry) → NamedParts f xs e behind → NamedParts f (x ∷ xs) e behind
parts_more {L} f x xs e behind parts =
    record { first = x ∷ parts.first; x = parts.x; rest = parts.rest; is = ap (λ (l : List L). x ∷ l) parts.is; named = parts.named; behind_is = parts.behind_is }

named_parts : {L : Type 0} (f : L → Entry) (xs : List L) (before : List Entry) (e : Entry) (behind : List Entry) → map f xs ≡ before ++ e ∷ behind → NamedParts f xs e behind
named_parts f [] [] e behind is = absurd (cc is)
named_parts f [] (y ∷ before) e behind is = absurd (cc is)
named_parts f (x ∷ xs) [] e behind is =
    let one : f x ≡ e = cc is in
    let others : map f xs ≡ behind = cc is in
    record { first = []; x = x; rest = xs; is = refl; named = one; behind_is = others }
named_parts f (x ∷ xs) (y ∷ before) e behind is =
    let others : map f xs ≡ before ++ e ∷ behind = cc is in
    parts_more f x xs e behind (named_parts f xs before e behind others)

module _ (time number : ℕ) where
  abbrev ByOthers : Entry → Type 0
  ByOthers e = thread_of e ≢ number

  behind_named
      : {L : Type 0} (f : L → Entry) (xs : List L) → StandsBehind (λ (x : L). thread_of (f x)) (λ (x : L). stamp_of (f x)) time number xs
      → (before : List Entry) (e : Entry) (behind : List Entry) → map f xs ≡ before ++ e ∷ behind → thread_of e ≡ main_thread → time < stamp_of e → All ByOthers behind
  behind_named f xs stands before e behind is by past =
      let parts = named_parts f xs before e behind is in
      let others = stands parts.first parts.x parts.rest parts.is (ap thread_of parts.named ∙ by) (subst (λ (z : Entry). time < stamp_of z) (sym parts.named) past) in
      subst (All ByOthers) parts.behind_is (All-map ByOthers f parts.rest others)

  behind_at
      : (h : Histories) → MainIsBehind h time number → (name : ObjectName) (before : List Entry) (e : Entry) (behind : List Entry) → entries_at h name ≡ before ++ e ∷ behind
      → thread_of e ≡ main_thread → time < stamp_of e → All ByOthers behind
  behind_at h stands object.Roster = behind_named roster_entry h.roster.items stands.at_roster
  behind_at h stands object.Book = behind_named (λ (entry : ReplyEntry). book_entry object.Book entry) h.book stands.at_book
  behind_at h stands (object.Port looper) = behind_named (λ (entry : PortEntry). port_entry (object.Port looper) entry) (port_list h looper) (stands.at_ports looper)
  behind_at h stands (object.Desk looper) = behind_named (λ (entry : EntryData). desk_entry (object.Desk looper) entry.plain) (desk_list h looper) (stands.at_desks looper)

-- ---- what holds of those that meet the test
module _ (p : Entry → Bool) (P : Entry → Type 0) where
  abbrev IfMet : Entry → Type 0
  IfMet e = p e ≡ true → P e

  met_first : (b : Bool) (x : Entry) (xs : List Entry) → All P (cond b (x ∷ xs) xs) → b ≡ true → P x
  met_first true x xs all is = All-head P x xs all
  met_first false x xs all is = absurd (cc is)

  all_met : (xs : List Entry) → All P (filter p xs) → All IfMet xs
  all_met [] all = All-nil IfMet
  all_met (x ∷ xs) all = All-cons IfMet x xs (met_first (p x) x (filter p xs) all) (all_met xs (rest_if P (p x) x (filter p xs) all))

pub stays_behind : MergedHasEachHistory → MergedIsBehind
stays_behind has sessions heads short h run entries merged time number stands before entry behind is by past =
    let there : entries_at h entry.object ≡ filter (is_at entry.object) before ++ entry ∷ filter (is_at entry.object) behind =
    sym (has sessions heads short h run entries merged entry.object) ∙ ap (filter (is_at entry.object)) is ∙ filter-append (is_at entry.object) before (entry ∷ behind)
    ∙ ap (λ (l : List Entry). filter (is_at entry.object) before ++ l) (first_there entry behind) in
    let others : All (ByOthers time number) (filter (is_at entry.object) behind) =
    behind_at time number h stands entry.object (filter (is_at entry.object) before) entry (filter (is_at entry.object) behind) there by past in
    All-weaker (IfMet (is_at entry.object) (ByOthers time number)) (λ (e : Entry). thread_of e ≡ number → e.object ≢ entry.object)
    (λ e met its same. met (ap (is_same entry.object) same ∙ at_itself entry.object) its) behind (all_met (is_at entry.object) (ByOthers time number) behind others)
