-- The list of a run's entries, with each desk as it was opened, by the laws of such lists.
use Rattle.std.proofs.Common.{ℕ, false, [], Option, None, option_map, unwrap_or, slice_get, ap, arith}
use Rattle.ak_action.specs.declared.state.DeskState.{DeskState}
use Rattle.ak_desk.specs.Desk.{DeskData}
use Rattle.ak_diary.specs.declared.histories.Histories.{Histories}
use Rattle.ak_sequence.specs.Laws.{AreOpened}
use Rattle.ak_sequence.proofs.laws.runs_are_sequences.Goals as goal

-- a run may have no looper: then the desk of each number is opened with nothing
blank : DeskState
blank = record {
  looper = 0;
  team = 0;
  first = 0;
  names = [];
  quit_refused = false;
  handlers = record { list = []; preferred = None; next_token = 0 };
  common = [];
  numbers = omega arith;
  some_loopers = omega arith;
}

abbrev opening_at : Histories → ℕ → DeskState
opening_at h looper = unwrap_or (option_map (λ (desk : DeskData). desk.opening) (slice_get h.desks.items looper)) blank

opened_at : (h : Histories) → AreOpened h (opening_at h)
opened_at h looper desk is = ap (λ (o : Option DeskData). unwrap_or (option_map (λ (desk : DeskData). desk.opening) o) blank) is

pub returns : goal.returns
returns c = λ sessions heads short h run.
    let there = c.merged_is_one.ensures.there h in
    let entries = there.0 in
    let openings = opening_at h in
    let worlds = c.merged_runs_worlds.ensures sessions heads short h run entries there.1 openings (opened_at h) in
    let last = worlds.0 in
    let runs = worlds.2 in (
      entries,
      record {
        merged = there.1;
        histories = c.merged_has_each_history.ensures sessions heads short h run entries there.1;
        diaries = c.merged_has_each_diary.ensures sessions heads short h run entries there.1;
        openings = openings;
        opened = opened_at h;
        last = last;
        left = worlds.1;
        worlds = runs;
        sound = c.worlds_are_sound.ensures heads short openings entries last runs;
        written_first = c.nothing_is_dispatched_before_it_is_written.ensures heads short openings entries last runs;
        filled_first = c.nothing_is_taken_before_it_is_filled.ensures heads short openings entries last runs;
        filled_behind = c.a_slot_is_filled_behind_its_last_item.ensures heads short openings entries last runs;
        written_in_order = c.items_are_written_in_order.ensures heads short openings entries last runs;
        dispatched_in_order = c.items_are_dispatched_in_order.ensures heads short openings entries last runs;
        none_when_shut = c.nothing_is_written_to_a_shut_port.ensures heads short openings entries last runs;
        none_behind_the_rest = c.nothing_is_dispatched_behind_the_rest.ensures heads short openings entries last runs;
      },
    )
