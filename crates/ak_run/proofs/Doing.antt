-- What main did by one call, and by one after another.
use Rattle.std.proofs.Common.{◌≡◌, ℕ, List, [], ◌∷◌, ◌++◌, All, sym, ap, ◌∙◌, subst, append-nil}
use Rattle.std.proofs.lemmas.List.Concat.{flat_map-append}
use Rattle.std.proofs.lemmas.List.Elements.{All-append, All-nil, All-weaker}
use Rattle.ak_base.specs.Thread.{main_thread}
use Rattle.ak_turn.specs.Entries.{StartsWith}
use Rattle.ak_turn.specs.Noted.{Noted, StandsIn, noted}
use Rattle.ak_turn.proofs.Surface.{starts_then_starts}
use Rattle.ak_desk.specs.Entry.{EntryData}
use Rattle.ak_desk.specs.Shared as at_desks
use Rattle.ak_diary.specs.Step.{Step, desk_entries, desk_entry}
use Rattle.ak_looper.specs.Rosters.{plain_of}
use Rattle.ak_port.specs.declared.port_entry.PortEntry.{PortEntry}
use Rattle.ak_run.specs.declared.run.Run.{Run}
use Rattle.ak_run.specs.Doing.{Does, DoesSo, HasDoneSoFar, IsQuietAtDesks, desk_front}
use Rattle.ak_run.specs.Entering.{DoesWith}
use Rattle.ak_run.specs.Recording.{GoesBy, RecordsSo, fronts_of, fronts_with}
use Rattle.ak_run.proofs.Acts.{goes_then, recorded_on, then_those}
use Rattle.ak_gather.proofs.Surface.{nothing_after}
use Rattle.ak_run.proofs.GoingOn.{desks_then, plain_on}

-- what stood at a desk stands there still
pub edits_still : (before after : List EntryData) (notes : List (Noted EntryData)) → StartsWith after before → All (StandsIn before) notes → All (StandsIn after) notes
edits_still before after notes on all = All-weaker (StandsIn before) (StandsIn after) (λ n stands. starts_then_starts (n.before ++ n.entry ∷ []) before after stands on) notes all

edits_then : (before after : List EntryData) (looper : ℕ) (xs ys : List Step) → StartsWith after before → All (StandsIn before) (desk_entries looper xs) → All (StandsIn after) (desk_entries looper ys) → All (StandsIn after) (desk_entries looper (xs ++ ys))
edits_then before after looper xs ys on one two =
    subst (All (StandsIn after)) (sym (flat_map-append (desk_entry looper) xs ys))
    (All-append (StandsIn after) (desk_entries looper xs) (desk_entries looper ys) (edits_still before after (desk_entries looper xs) on one) two)

-- what main made at that desk, of what it has seen
abbrev made_there : Run → ℕ → List (Noted EntryData)
made_there r looper = noted at_desks.by_number main_thread (desk_front r looper)

-- some steps and then others
pub does_then : (xs ys : List Step) (r s t : Run) → Does xs r s → Does ys s t → Does (xs ++ ys) r t
does_then xs ys r s t one two = record {
  goes = goes_then xs ys (fronts_of r) (fronts_of s) (fronts_of t) one.goes two.goes;
  roster_on = starts_then_starts (plain_of r.roster_seat) (plain_of s.roster_seat) (plain_of t.roster_seat) one.roster_on two.roster_on;
  desks = λ looper. then_those (desk_entry looper) xs ys (made_there r looper) (made_there s looper) (made_there t looper) (one.desks looper) (two.desks looper);
  desks_on = λ looper. starts_then_starts (desk_front r looper) (desk_front s looper) (desk_front t looper) (one.desks_on looper) (two.desks_on looper);
  edits = λ looper. edits_then (desk_front s looper) (desk_front t looper) looper xs ys (two.desks_on looper) (one.edits looper) (two.edits looper);
}

-- main's diary goes on by them
pub done_then : (steps more : List Step) (r r' : Run) → HasDoneSoFar steps r → Does more r r' → HasDoneSoFar (steps ++ more) r'
done_then steps more r r' done does = record {
  recorded = recorded_on steps more (fronts_of r) (fronts_of r') does.goes done.recorded;
  desks = λ looper. then_those (desk_entry looper) steps more [] (made_there r looper) (made_there r' looper) (done.desks looper) (does.desks looper);
  edits = λ looper. edits_then (desk_front r looper) (desk_front r' looper) looper steps more (does.desks_on looper) (done.edits looper) (does.edits looper);
}

-- steps without an edit
pub does_so : (P : List Step → Type 0) (steps : List Step) (r r' : Run) → P steps → GoesBy steps (fronts_of r) (fronts_of r') → StartsWith (plain_of r'.roster_seat) (plain_of r.roster_seat) → IsQuietAtDesks r r' → ((looper : ℕ) → desk_entries looper steps ≡ []) → DoesSo P r r'
does_so P steps r r' so goes roster desks none = record {
  steps = steps;
  so = so;
  does = record {
    goes = goes;
    roster_on = roster;
    desks = λ looper. desks.same looper ∙ sym (ap (λ l. made_there r looper ++ l) (none looper) ∙ append-nil (made_there r looper));
    desks_on = desks.on;
    edits = λ looper. subst (All (StandsIn (desk_front r' looper))) (sym (none looper)) (All-nil (StandsIn (desk_front r' looper)));
  };
}

pub does_with : (P Q : List Step → Type 0) (r r' : Run) → ((steps : List Step) → P steps → Q steps) → DoesWith P [] r r' → DoesSo Q r r'
does_with P Q r r' tells does = does_so Q does.steps r r' (tells does.steps does.so) does.goes does.roster_on does.desks_on does.no_edits

-- by steps of the one kind and then of the other
pub does_so_then : (P Q S : List Step → Type 0) (r s t : Run) → ((xs ys : List Step) → P xs → Q ys → S (xs ++ ys)) → DoesSo P r s → DoesSo Q s t → DoesSo S r t
does_so_then P Q S r s t tells one two = record { steps = one.steps ++ two.steps; so = tells one.steps two.steps one.so two.so; does = does_then one.steps two.steps r s t one.does two.does }

-- then a team starts, whose ports were new: without a step, or by some
module _ (P : List Step → Type 0) (new : List (List PortEntry)) (r s t : Run) (does : DoesWith P new r s) (on : StartsWith t.roster_seat.front s.roster_seat.front) (desks : IsQuietAtDesks s t) where
  roster_then : StartsWith (plain_of t.roster_seat) (plain_of r.roster_seat)
  roster_then = starts_then_starts (plain_of r.roster_seat) (plain_of s.roster_seat) (plain_of t.roster_seat) does.roster_on (plain_on s.roster_seat t.roster_seat on)

  pub then_quiet : (Q : List Step → Type 0) → ((steps : List Step) → P steps → Q steps) → fronts_of t ≡ fronts_with s new → DoesSo Q r t
  then_quiet Q tells same = does_so Q does.steps r t (tells does.steps does.so) (subst (GoesBy does.steps (fronts_of r)) (sym same) does.goes) roster_then (desks_then r s t does.desks_on desks) does.no_edits

  pub then_records : (S Q : List Step → Type 0) → ((xs ys : List Step) → P xs → S ys → Q (xs ++ ys)) → RecordsSo S (fronts_with s new) (fronts_of t) → DoesSo Q r t
  then_records S Q tells more =
      does_so Q (does.steps ++ more.steps) r t (tells does.steps more.steps does.so more.so) (goes_then does.steps more.steps (fronts_of r) (fronts_with s new) (fronts_of t) does.goes more.goes) roster_then (desks_then r s t does.desks_on desks)
      (λ looper. nothing_after (desk_entry looper) does.steps more.steps (does.no_edits looper) (more.no_edits looper))
