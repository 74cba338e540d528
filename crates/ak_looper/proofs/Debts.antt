-- What is owed, as it was made ready, and as it was paid.
use Rattle.std.proofs.Common.{◌≡◌, ℕ, ◌<◌, ◌≤◌, ◌==◌, Bool, true, false, not, ◌&&◌, ◌||◌, cond, List, [], ◌∷◌, ◌++◌, length, codes, Option, None, Some, Result, refl, sym, ap, ◌∙◌, subst, eqb-true, inl, inr, true≢false, arith}
use Rattle.std.specs.Result.{result_err}
use Rattle.std.proofs.lemmas.List.{nil_from_length}
use Rattle.std.proofs.lemmas.List.Folds.{list_any-append}
use Rattle.ak_base.specs.Code.{code_of}
use Rattle.ak_message.specs.declared.address.Address.{Address}
use Rattle.ak_message.specs.Message.{FieldData, MessageData, message_value, nested_fields}
use Rattle.ak_message.specs.Popped.{unpopped}
use Rattle.ak_message.specs.Whole.{IsWhole}
use Rattle.ak_flatten.specs.declared.fault.FlatFault.{FlatFault}
use Rattle.ak_flatten.specs.declared.item.Duty.{Duty}
use Rattle.ak_flatten.specs.declared.item.Duty.TheVariants as duty
use Rattle.ak_flatten.specs.Item.{ItemData}
use Rattle.ak_flatten.specs.Laws.{WrittenIsRead}
use Rattle.ak_flatten.specs.Spelling.{spelling, value_bytes}
use Rattle.ak_flatten.proofs.Surface.{spelled_is_read}
use Rattle.ak_port.specs.Reply.{IsFlatText, none_text}
use Rattle.ak_desk.specs.Replies.{none_reply}
use Rattle.ak_looper.specs.declared.duty.Debt.{Debt}
use Rattle.ak_looper.specs.declared.duty.Debt.TheVariants as debt
use Rattle.ak_looper.specs.Debts.{IsDebt, PaysBack, PaysDebt}
use Rattle.ak_looper.specs.Heard.{RepliedSo}
use Rattle.ak_diary.specs.Looper.{LooperFacts, calls_for_closing, has_door, is_closing}
use Rattle.ak_diary.specs.Step.{Step, at_roster, at_book, at_port, saw_book, lacked, is_lack, ran_short}
use Rattle.ak_diary.specs.Turns.{Fills, Pays, PostsBack, RepliesBack, TriesBack, WritesText, is_no_reply, lacked_if, wants_text, with_memory, without}
use Rattle.ak_diary.specs.Wants.{OpensFor, Through, sent_item}

-- ---- texts
-- what is written of a whole message that is not too long is a flat text
pub flat_text : WrittenIsRead → (m : MessageData) (flat : List ℕ) → IsWhole m → (4096 < length (spelling m) → ⊥) → flat ≡ spelling m → IsFlatText flat
flat_text written m flat whole fits same =
    let limit : length (spelling m) ≤ 4096 = omega arith in
    let read = spelled_is_read (spelling m) (unpopped m) (written m whole limit) in
    subst IsFlatText (sym same) (ap (λ (r : Result MessageData FlatFault). result_err r) read)

both_true : (a b : Bool) → (a && b) ≡ true → (a ≡ true) × (b ≡ true)
both_true true b e = (refl, e)
both_true false b e = absurd (true≢false (sym e))

-- a message that stands for no reply has the text for none
none_spelled : (m : MessageData) → is_no_reply m ≡ true → spelling m ≡ none_text
none_spelled m none =
    let parts = both_true (m.what == code_of (codes "NONE")) (length m.fields == 0) none in
    let what = eqb-true m.what (code_of (codes "NONE")) parts.0 in
    let fields = nil_from_length m.fields (eqb-true (length m.fields) 0 parts.1) in
    ap (λ (n : ℕ). value_bytes (message_value n (nested_fields m.fields) m.popped)) what
    ∙ ap (λ (fs : List FieldData). value_bytes (message_value (code_of (codes "NONE")) (nested_fields fs) m.popped)) fields

-- ---- which reply is told: none in place of one for whose text there was no memory
abbrev pub told_of : Bool → Option MessageData → Option MessageData
told_of true reply = Some none_reply
told_of false reply = reply

-- memory is wanting only where a text is made
wants_of : (team : ℕ) (owed : Duty) (reply : Option MessageData) (d : Debt) → IsDebt team owed reply true d → wants_text owed reply ≡ true
wants_of team duty.None None d is = absurd (true≢false is.0)
wants_of team (duty.Slot n) None d is = absurd (true≢false is.0)
wants_of team (duty.Back to) None d is = absurd (true≢false is.0)
wants_of team duty.None (Some m) d is = absurd (true≢false is.0)
wants_of team (duty.Slot n) (Some m) d is = ap not is.0
wants_of team (duty.Back to) (Some m) d is = ap not is.0

pub writes_of : (team : ℕ) (owed : Duty) (reply : Option MessageData) (short : Bool) (d : Debt) → IsDebt team owed reply short d → WritesText owed reply (told_of short reply) (lacked_if short)
writes_of team owed reply true d is = without (wants_of team owed reply d is)
writes_of team owed reply false d is = with_memory

-- ---- what is paid is what is owed for that reply
module _ (l : LooperFacts) (so_far : List Step) where
  slot_pays : (n : ℕ) (m : MessageData) (none : Bool) (paid : Bool) (steps : List Step) → is_no_reply m ≡ none
      → PaysDebt l so_far (cond none (debt.NoReply n) (debt.Text n (spelling m))) paid steps → Fills n (spelling m) steps
  slot_pays n m true paid steps none pays = subst (λ (text : List ℕ). Fills n text steps) (sym (none_spelled m none)) pays.1
  slot_pays n m false paid steps none pays = pays.1

  through_as : (looper : ℕ) (P Q : List Step → Type 0) (steps : List Step) → ((s : List Step) → P s → Q s) → Through l so_far looper P steps → Through l so_far looper Q steps
  through_as looper P Q steps so through = record { door = through.door; opens = through.opens; rest = through.rest; then_does = so through.rest through.then_does; is = through.is }

  back_goes : (to : Address) (m : MessageData) (item : ItemData) (paid : Bool) (steps : List Step) → item ≡ sent_item l.team to duty.None m
      → PaysBack l so_far to item paid steps → RepliesBack l so_far false to m steps
  back_goes to m item true steps is pays =
      let sent = sent_item l.team to duty.None m in
      inr (through_as to.looper (RepliedSo to.looper sent true) (TriesBack to.looper sent) steps (λ s posts. inl posts) (subst (λ (i : ItemData). PaysBack l so_far to i true steps) is pays))
  back_goes to m item false steps is (inl way) = inl way
  back_goes to m item false steps is (inr through) =
      let sent = sent_item l.team to duty.None m in
      inr (through_as to.looper (RepliedSo to.looper item false) (TriesBack to.looper sent) steps (λ s lacks. inr lacks) through)

  back_pays : (to : Address) (m : MessageData) (none : Bool) (paid : Bool) (steps : List Step)
      → PaysDebt l so_far (cond none debt.Nothing (debt.Back to (sent_item l.team to duty.None m))) paid steps → RepliesBack l so_far none to m steps
  back_pays to m true paid steps pays = pays.1
  back_pays to m false paid steps pays = back_goes to m (sent_item l.team to duty.None m) paid steps refl pays

  nothing_pays : (d : Debt) (paid : Bool) (steps : List Step) → d ≡ debt.Nothing → PaysDebt l so_far d paid steps → steps ≡ []
  nothing_pays d paid steps is pays = let so = subst (λ (x : Debt). PaysDebt l so_far x paid steps) is pays in so.1

  none_pays : (n : ℕ) (d : Debt) (paid : Bool) (steps : List Step) → d ≡ debt.NoReply n → PaysDebt l so_far d paid steps → Fills n none_text steps
  none_pays n d paid steps is pays = let so = subst (λ (x : Debt). PaysDebt l so_far x paid steps) is pays in so.1

  pub pays_of : (owed : Duty) (reply : Option MessageData) (short : Bool) (d : Debt) (paid : Bool) (steps : List Step)
      → IsDebt l.team owed reply short d → PaysDebt l so_far d paid steps → Pays l so_far owed (told_of short reply) steps
  pays_of duty.None None true d paid steps is pays = absurd (true≢false is.0)
  pays_of (duty.Slot n) None true d paid steps is pays = absurd (true≢false is.0)
  pays_of (duty.Back to) None true d paid steps is pays = absurd (true≢false is.0)
  pays_of duty.None None false d paid steps is pays = nothing_pays d paid steps is.1 pays
  pays_of (duty.Slot n) None false d paid steps is pays = nothing_pays d paid steps is.1 pays
  pays_of (duty.Back to) None false d paid steps is pays = nothing_pays d paid steps is.1 pays
  pays_of duty.None (Some m) true d paid steps is pays = absurd (true≢false is.0)
  pays_of duty.None (Some m) false d paid steps is pays = nothing_pays d paid steps is.1 pays
  pays_of (duty.Slot n) (Some m) true d paid steps is pays = none_pays n d paid steps is.1 pays
  pays_of (duty.Slot n) (Some m) false d paid steps is pays = slot_pays n m (is_no_reply m) paid steps refl (subst (λ (x : Debt). PaysDebt l so_far x paid steps) is pays)
  pays_of (duty.Back to) (Some m) true d paid steps is pays = nothing_pays d paid steps is.1 pays
  pays_of (duty.Back to) (Some m) false d paid steps is pays = back_pays to m (is_no_reply m) paid steps (subst (λ (x : Debt). PaysDebt l so_far x paid steps) is pays)

-- ---- which steps call for a closing: those alone at which memory was wanting
pub record CallsFor (b : Bool) (steps : List Step) : Type 0 where
  pub closing : is_closing steps ≡ b
  pub short : ran_short steps ≡ b

pub calls_append : (a b : Bool) (xs ys : List Step) → CallsFor a xs → CallsFor b ys → CallsFor (a || b) (xs ++ ys)
calls_append a b xs ys first second = record {
  closing = list_any-append calls_for_closing xs ys ∙ ap (λ (c : Bool). c || is_closing ys) first.closing ∙ ap (λ (c : Bool). a || c) second.closing;
  short = list_any-append is_lack xs ys ∙ ap (λ (c : Bool). c || ran_short ys) first.short ∙ ap (λ (c : Bool). a || c) second.short;
}

pub calls_as : (b : Bool) (steps xs : List Step) → steps ≡ xs → CallsFor b xs → CallsFor b steps
calls_as b steps xs is calls = subst (CallsFor b) (sym is) calls

pub calls_none : CallsFor false []
calls_none = record { closing = refl; short = refl }

pub calls_lacked : CallsFor true (lacked ∷ [])
calls_lacked = record { closing = refl; short = refl }

pub calls_if : (short : Bool) → CallsFor short (lacked_if short)
calls_if true = calls_lacked
calls_if false = calls_none

fills_calls : (n : ℕ) (text : List ℕ) (steps : List Step) → Fills n text steps → CallsFor false steps
fills_calls n text steps (inl enters) = calls_as false steps (at_book enters.noted ∷ []) enters.is (record { closing = refl; short = refl })
fills_calls n text steps (inr finds) = calls_as false steps (saw_book finds.seen ∷ []) finds.is (record { closing = refl; short = refl })

posts_calls : (looper : ℕ) (item : ItemData) (steps : List Step) → PostsBack looper item steps → CallsFor false steps
posts_calls looper item steps posts = calls_as false steps (at_port looper posts.enters.noted ∷ []) posts.enters.is (record { closing = refl; short = refl })

module _ (l : LooperFacts) (so_far : List Step) where
  opens_calls : (has : Bool) (looper : ℕ) (steps : List Step) → OpensFor l so_far has looper steps → CallsFor false steps
  opens_calls true looper steps is = calls_as false steps [] is calls_none
  opens_calls false looper steps gets = calls_as false steps (at_roster gets.noted ∷ []) gets.is (record { closing = refl; short = refl })

  through_calls : (looper : ℕ) (P : List Step → Type 0) (b : Bool) (steps : List Step) → ((s : List Step) → P s → CallsFor b s) → Through l so_far looper P steps → CallsFor b steps
  through_calls looper P b steps so through =
      calls_as b steps (through.door ++ through.rest) through.is
      (calls_append false b through.door through.rest (opens_calls (has_door l so_far looper) looper through.door through.opens) (so through.rest through.then_does))

  back_calls : (to : Address) (item : ItemData) (paid : Bool) (steps : List Step) → PaysBack l so_far to item paid steps → CallsFor (not paid) steps
  back_calls to item true steps through = through_calls to.looper (RepliedSo to.looper item true) false steps (λ s posts. posts_calls to.looper item s posts) through
  back_calls to item false steps (inl way) = calls_as true steps (lacked ∷ []) way.is calls_lacked
  back_calls to item false steps (inr through) = through_calls to.looper (RepliedSo to.looper item false) true steps (λ s is. calls_as true s (lacked ∷ []) is calls_lacked) through

  pub pays_calls : (d : Debt) (paid : Bool) (steps : List Step) → PaysDebt l so_far d paid steps → CallsFor (not paid) steps
  pays_calls debt.Nothing paid steps pays = subst (λ (b : Bool). CallsFor b steps) (ap not (sym pays.0)) (calls_as false steps [] pays.1 calls_none)
  pays_calls (debt.Text n flat) paid steps pays = subst (λ (b : Bool). CallsFor b steps) (ap not (sym pays.0)) (fills_calls n flat steps pays.1)
  pays_calls (debt.NoReply n) paid steps pays = subst (λ (b : Bool). CallsFor b steps) (ap not (sym pays.0)) (fills_calls n none_text steps pays.1)
  pays_calls (debt.Back to item) paid steps pays = back_calls to item paid steps pays
