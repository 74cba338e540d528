-- A message in braces is read as what its text says, and as nothing else, level by level.
use Rattle.std.proofs.Common.{◌≡◌, ℕ, zero, suc, ◌≤◌, List, Option, Some, refl, sym, ap, ◌∙◌, arith}
use Rattle.std.specs.Prelude.{option_map}
use Rattle.ak_base.proofs.Surface.{bind_some, done, some_is}
use Rattle.ak_base.specs.Option.{◌>>=◌}
use Rattle.ak_base.specs.declared.limited.Limited.{Limited}
use Rattle.ak_base.specs.declared.limited.Limited.TheVariants.{Over}
use Rattle.ak_message.specs.declared.kind.Kind.TheVariants as k
use Rattle.ak_message.specs.Message.{MessageData}
use Rattle.ak_input.specs.Got.{Got, over}
use Rattle.ak_input.specs.Pieces.{braced}
use Rattle.ak_input.specs.Reading.{got_message, message_of, message_from, words_of}
use Rattle.ak_input.specs.Said.{IsBraced, WritesWithin}
use Rattle.ak_input.proofs.FieldsSaid.{words_again, words_take}
use Rattle.ak_input.proofs.Fine.{message_fine}
use Rattle.ak_input.proofs.MessagesAgain.{braced_again}
use Rattle.ak_input.proofs.NumberWords.{mapped_some}
use Rattle.ak_input.proofs.PiecesSaid.{braced_takes, parted_again, parted_takes}
use Rattle.ak_input.proofs.ValuesSaid.{Agree}

braced_is : (text body : List ℕ) → IsBraced text body → braced text ≡ Some body
braced_is text body is = ap braced is ∙ braced_again body

-- the text says a message, and this is how it is told
abbrev SaysMessage : ℕ → List ℕ → Got → Type 0
SaysMessage levels text g = (m : Limited MessageData) × WritesWithin levels text m × (g ≡ got_message m)

none_takes : (text : List ℕ) (g : Got) → message_from zero text ≡ Some g → SaysMessage zero text g
unfolding message_from WritesWithin
none_takes text g e =
    let s = bind_some (braced text) (λ body. Some (over k.Message)) g e in
    (Over, (s.0, braced_takes text s.0 s.1, refl), sym (some_is (over k.Message) g s.2))

none_again : (text : List ℕ) (g : Got) → SaysMessage zero text g → message_from zero text ≡ Some g
unfolding message_from WritesWithin
none_again text g is =
    let past : over k.Message ≡ g = sym (is.2 ∙ ap got_message is.1.2) in
    ap (λ (o : Option (List ℕ)). o >>= λ body. Some (over k.Message)) (braced_is text is.1.0 is.1.1) ∙ ap (λ (x : Got). done x) past

module _ (levels : ℕ) (few : levels ≤ 15) (agree : Agree (message_from levels) (WritesWithin levels)) where
  more_takes : (text : List ℕ) (g : Got) → message_from (suc levels) text ≡ Some g → SaysMessage (suc levels) text g
  unfolding message_from WritesWithin
  more_takes text g e =
      let s = bind_some (braced text) (λ body. words_of body >>= λ words. option_map got_message (message_of (message_from levels) words)) g e in
      let w = bind_some (words_of s.0) (λ words. option_map got_message (message_of (message_from levels) words)) g s.2 in
      let m = mapped_some got_message (message_of (message_from levels) w.0) g w.2 in
      let said = words_take (message_from levels) (WritesWithin levels) agree levels few (message_fine levels) w.0 m.0 m.1 in
      (m.0, (s.0, w.0, braced_takes text s.0 s.1, parted_takes s.0 w.0 w.1, said), sym m.2)

  more_again : (text : List ℕ) (g : Got) → SaysMessage (suc levels) text g → message_from (suc levels) text ≡ Some g
  unfolding message_from WritesWithin
  more_again text g is =
      let body : List ℕ = is.1.0 in
      let words : List (List ℕ) = is.1.1 in
      let read = words_again (message_from levels) (WritesWithin levels) agree levels few (message_fine levels) words is.0 is.1.4 in
      ap (λ (o : Option (List ℕ)). o >>= λ body. words_of body >>= λ words. option_map got_message (message_of (message_from levels) words)) (braced_is text body is.1.2)
      ∙ ap (λ (o : Option (List (List ℕ))). o >>= λ words. option_map got_message (message_of (message_from levels) words)) (parted_again body words is.1.3)
      ∙ ap (λ (o : Option (Limited MessageData)). option_map got_message o) read
      ∙ ap (λ (x : Got). done x) (sym is.2)

pub message_said : (levels : ℕ) → levels ≤ 16 → Agree (message_from levels) (WritesWithin levels)
message_said zero le = λ text g. (none_takes text g, none_again text g)
message_said (suc levels) le =
    let agree = message_said levels (omega arith) in
    λ text g. (more_takes levels (omega arith) agree text g, more_again levels (omega arith) agree text g)
