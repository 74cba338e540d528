-- The reply of a reaction is that of its first reply action.
use Rattle.std.proofs.Common.{◌≡◌, ℕ, ◌+◌, Bool, true, false, cond, List, [], ◌∷◌, ◌++◌, length, Option, None, Some, is_some, refl, sym, ap, subst, ◌∙◌, arith}
use Rattle.ak_message.specs.Message.{ValueData, MessageData, kind_of}
use Rattle.ak_value.specs.declared.fault.ElementFault.{ElementFault}
use Rattle.ak_value.specs.declared.fault.ElementFault.TheVariants as fault
use Rattle.ak_value.specs.Elements.{ElementsData, set_first_fault}
use Rattle.ak_action.specs.declared.action.Action.{Action}
use Rattle.ak_action.specs.declared.action.Action.TheVariants as action
use Rattle.ak_action.specs.declared.action.Dest.{Dest}
use Rattle.ak_action.specs.declared.action.Dest.TheVariants as dest
use Rattle.ak_action.specs.declared.answer.AnswerWord.TheVariants as word
use Rattle.ak_action.specs.declared.answer.Want.{Want}
use Rattle.ak_action.specs.declared.answer.Want.TheVariants as want
use Rattle.ak_action.specs.declared.doing.Sending.{Sending}
use Rattle.ak_action.specs.declared.number.Number.{Number}
use Rattle.ak_action.specs.declared.row.DeskRow.{DeskRow}
use Rattle.ak_action.specs.declared.state.DeskState.{DeskState}
use Rattle.ak_action.specs.declared.template.Template.{Template}
use Rattle.ak_action.specs.Acts.{Acts, Course, goes_on, ended, waits, act, acts_on, asks, carried_out, found, is_at, opened, out_of_memory, sent, then_on, want_of, while_going, with_word}
use Rattle.ak_action.specs.Building.{built}
use Rattle.ak_action.specs.Doing.{Doing, says, replies, puts, sends, finds, stops, quits, add_to, doing_of, preferred_of, put_at, put_in, put_sum, refused_or_put, row_of, sent_to, set_to, to_handler, to_looper}
use Rattle.ak_action.specs.Laws.{FirstReplyStays, IsFirstReply, ReplyIsFirst}
use Rattle.ak_action.proofs.LawCases.{actions_by, found_by, heard_by, sent_by}

-- ---- what makes no reply
abbrev MakesNone : Doing → Type 0
MakesNone (says _) = Unit {0}
MakesNone (replies _) = ⊥
MakesNone (puts _ _) = Unit {0}
MakesNone (sends _ _ _) = Unit {0}
MakesNone (finds _ _ _) = Unit {0}
MakesNone stops = Unit {0}
MakesNone quits = Unit {0}

abbrev IsNoReply : Action → Type 0
IsNoReply (action.Reply _) = ⊥
IsNoReply _ = Unit {0}

to_looper-none : (o : Option ℕ) (how : Sending) (m : MessageData) → MakesNone (to_looper o how m)
to_looper-none None how m = tt
to_looper-none (Some looper) how m = tt

to_handler-none : (looper : ℕ) (o : Option ℕ) (how : Sending) (m : MessageData) → MakesNone (to_handler looper o how m)
to_handler-none looper None how m = tt
to_handler-none looper (Some token) how m = tt

sent_to-none : (s : DeskState) (to : Dest) (how : Sending) (m : MessageData) → MakesNone (sent_to s to how m)
sent_to-none s dest.Own how m = tt
sent_to-none s (dest.Looper name) how m = to_looper-none _ how m
sent_to-none s (dest.Handler name) how m = to_handler-none s.looper _ how m
sent_to-none s (dest.App word) how m = tt

refused_or_put-none : (place : ℕ) (value : ValueData) (o : Option ElementFault) → MakesNone (refused_or_put place value o)
refused_or_put-none place value None = tt
refused_or_put-none place value (Some fault.BadType) = tt
refused_or_put-none place value (Some fault.BadIndex) = tt
refused_or_put-none place value (Some _) = tt

put_in-none : (place : ℕ) (o : Option ElementsData) (value : ValueData) → MakesNone (put_in place o value)
put_in-none place None value = tt
put_in-none place (Some e) value = refused_or_put-none place value (set_first_fault e (kind_of value))

put_at-none : (row : DeskRow) (o : Option ℕ) (value : ValueData) → MakesNone (put_at row o value)
put_at-none row None value = tt
put_at-none row (Some place) value = put_in-none place _ value

set_to-none : (row : DeskRow) (property : List ℕ) (o : Option ValueData) → MakesNone (set_to row property o)
set_to-none row property None = tt
set_to-none row property (Some value) = put_at-none row _ value

put_sum-none : (row : DeskRow) (property : List ℕ) (o : Option Number) → MakesNone (put_sum row property o)
put_sum-none row property None = tt
put_sum-none row property (Some sum) = put_at-none row _ _

add_to-none : (row : DeskRow) (property : List ℕ) (o : Option ValueData) (amount : Number) → MakesNone (add_to row property o amount)
add_to-none row property None amount = tt
add_to-none row property (Some value) amount = put_sum-none row property _

doing_of-none : (s : DeskState) (token : ℕ) (m : MessageData) (replied : Bool) (a : Action) → IsNoReply a → MakesNone (doing_of s token m replied a)
doing_of-none s token m replied (action.Reply t) none = absurd none
doing_of-none s token m replied (action.Post to t back) none = sent_to-none s to _ _
doing_of-none s token m replied (action.Ask to t into) none = sent_to-none s to _ _
doing_of-none s token m replied (action.Set property value) none = set_to-none (row_of s token) property _
doing_of-none s token m replied (action.Add property amount) none = add_to-none (row_of s token) property _ amount
doing_of-none s token m replied action.Stop none = tt
doing_of-none s token m replied action.Quit none = tt

-- ---- what leaves the reply as it is
abbrev HasReply : Option MessageData → Acts → Type 0
HasReply o p = p.reply ≡ o

module _ (token : ℕ) where
  sends_leave : (how : Sending) (w : Want) (p : Acts) → HasReply p.reply (asks w (sent token how) p)
  sends_leave how w p =
      heard_by (HasReply p.reply) (sent token how) p.answers (record p { wants = p.wants ++ w ∷ [] }) (λ e. refl) (λ rest e. refl)
      (λ a rest e. sent_by (HasReply p.reply) token how a (record p { wants = p.wants ++ w ∷ []; answers = rest }) (λ error. refl) (λ flat s. refl))

  finds_leave : (how : Sending) (m : MessageData) (w : Want) (p : Acts) → HasReply p.reply (asks w (found token how m) p)
  finds_leave how m w p =
      heard_by (HasReply p.reply) (found token how m) p.answers (record p { wants = p.wants ++ w ∷ [] }) (λ e. refl) (λ rest e. refl)
      (λ a rest e. found_by (HasReply p.reply) token how m a (record p { wants = p.wants ++ w ∷ []; answers = rest }) refl
      (λ team first. sends_leave how (want_of (preferred_of first) how m) (with_word (word.Team team) (record p { wants = p.wants ++ w ∷ []; answers = rest }))))

  doing_leaves : (d : Doing) (p : Acts) → MakesNone d → HasReply p.reply (carried_out token d p)
  doing_leaves (says e) p none = refl
  doing_leaves (replies m) p none = absurd none
  doing_leaves (puts place value) p none = refl
  doing_leaves (sends to how m) p none = sends_leave how (want_of to how m) p
  doing_leaves (finds w how m) p none = finds_leave how m (want.Find w) p
  doing_leaves stops p none = refl
  doing_leaves quits p none = refl

module _ (token : ℕ) (m : MessageData) where
  act_leaves : (a : Action) (p : Acts) → IsNoReply a → HasReply p.reply (act token m a p)
  act_leaves a p none = doing_leaves token (doing_of p.state token m (is_some p.reply) a) p (doing_of-none p.state token m (is_some p.reply) a none)

  -- a reply action, by whether there is a reply
  abbrev replying : Template → Acts → Bool → Acts
  replying t p replied = carried_out token (doing_of p.state token m replied (action.Reply t)) p

  act_stays : (a : Action) (p : Acts) (reply : MessageData) → p.reply ≡ Some reply → (act token m a p).reply ≡ Some reply
  act_stays (action.Reply t) p reply is = ap (λ (b : Bool). (replying t p b).reply) (ap (λ (o : Option MessageData). is_some o) is) ∙ is
  act_stays (action.Post to t back) p reply is = act_leaves (action.Post to t back) p tt ∙ is
  act_stays (action.Ask to t into) p reply is = act_leaves (action.Ask to t into) p tt ∙ is
  act_stays (action.Set property value) p reply is = act_leaves (action.Set property value) p tt ∙ is
  act_stays (action.Add property amount) p reply is = act_leaves (action.Add property amount) p tt ∙ is
  act_stays action.Stop p reply is = act_leaves action.Stop p tt ∙ is
  act_stays action.Quit p reply is = act_leaves action.Quit p tt ∙ is

  act_replies : (t : Template) (p : Acts) → p.reply ≡ None → (act token m (action.Reply t) p).reply ≡ Some (built (row_of p.state token) m t)
  act_replies t p none = ap (λ (b : Bool). (replying t p b).reply) (ap (λ (o : Option MessageData). is_some o) none)

pub first_reply_stays_holds : FirstReplyStays
first_reply_stays_holds token m memory place actions p reply is =
    actions_by token m memory (λ rest. HasReply (Some reply)) (λ rest. HasReply (Some reply)) (HasReply (Some reply))
    (λ q h. h) (λ a rest q h. h) (λ a rest q h. act_stays token m a q reply h) (λ rest q going h. h) (λ rest q h. h) actions place p is

-- ---- the first one
module _ (token : ℕ) (m : MessageData) (memory : Option ℕ) where
  stays_then : (c : Course) (place : ℕ) (rest : List Action) (p : Acts) (reply : MessageData) → p.reply ≡ Some reply → (while_going (acts_on token m memory place rest) c p).reply ≡ Some reply
  stays_then goes_on place rest p reply is = first_reply_stays_holds token m memory place rest p reply is
  stays_then ended place rest p reply is = is
  stays_then waits place rest p reply is = is

  -- an action that finds memory, and behind which it goes on
  next_on : (a : Action) (rest : List Action) (place : ℕ) (p : Acts) → is_at memory place ≡ false → (act token m a p).course ≡ goes_on → acts_on token m memory place (a ∷ rest) p ≡ acts_on token m memory (place + 1) rest (act token m a p)
  next_on a rest place p there going =
      ap (λ (b : Bool). cond b (out_of_memory p) (then_on (acts_on token m memory (place + 1) rest) (act token m a p))) there
      ∙ ap (λ (c : Course). while_going (acts_on token m memory (place + 1) rest) c (act token m a p)) going

  record IsFirst (actions : List Action) (place : ℕ) (p : Acts) (reply : MessageData) : Type 0 where
    before : List Action
    template : Template
    behind : List Action
    parts : actions ≡ before ++ action.Reply template ∷ behind
    comes : (acts_on token m memory place before p).course ≡ goes_on
    none_before : (acts_on token m memory place before p).reply ≡ None
    has_memory : is_at memory (place + length before) ≡ false
    made : reply ≡ built (row_of (acts_on token m memory place before p).state token) m template

  -- ---- where there is a reply, a first reply action was come to
  made_by : (o : Option MessageData) (x y : MessageData) → o ≡ Some x → o ≡ Some y → x ≡ y
  made_by o x y e f = cc

  first_of_more : (a : Action) (rest : List Action) (place : ℕ) (p : Acts) (reply : MessageData) → is_at memory place ≡ false → (act token m a p).course ≡ goes_on → IsFirst rest (place + 1) (act token m a p) reply → IsFirst (a ∷ rest) place p reply
  first_of_more a rest place p reply there going f =
      let same = next_on a f.before place p there going in
      let one_on : place + 1 + length f.before ≡ place + length (a ∷ f.before) = omega arith in
      record {
        before = a ∷ f.before;
        template = f.template;
        behind = f.behind;
        parts = ap (λ (l : List Action). a ∷ l) f.parts;
        comes = ap (λ (q : Acts). q.course) same ∙ f.comes;
        none_before = ap (λ (q : Acts). q.reply) same ∙ f.none_before;
        has_memory = subst (λ n. is_at memory n ≡ false) one_on f.has_memory;
        made = f.made ∙ sym (ap (λ (q : Acts). built (row_of q.state token) m f.template) same);
      }

  first_there : (t : Template) (rest : List Action) (place : ℕ) (p : Acts) (reply : MessageData) → p.course ≡ goes_on → p.reply ≡ None → is_at memory place ≡ false → (while_going (acts_on token m memory (place + 1) rest) (act token m (action.Reply t) p).course (act token m (action.Reply t) p)).reply ≡ Some reply → IsFirst (action.Reply t ∷ rest) place p reply
  first_there t rest place p reply going none there is =
      let at : place ≡ place + length {A = Action} [] = omega arith in
      record {
        before = [];
        template = t;
        behind = rest;
        parts = refl;
        comes = going;
        none_before = none;
        has_memory = subst (λ n. is_at memory n ≡ false) at there;
        made = made_by _ reply (built (row_of p.state token) m t) is
            (stays_then (act token m (action.Reply t) p).course (place + 1) rest (act token m (action.Reply t) p) (built (row_of p.state token) m t) (act_replies token m t p none));
      }

  nothing_made : {X : Type 0} (p : Acts) (reply : MessageData) → p.reply ≡ None → p.reply ≡ Some reply → X
  nothing_made p reply none is = absurd cc

  -- another action makes none
  behind_other : (a : Action) (rest : List Action) (place : ℕ) (p : Acts) (reply : MessageData) → ((q : Acts) → q.course ≡ goes_on → q.reply ≡ None → (acts_on token m memory (place + 1) rest q).reply ≡ Some reply → IsFirst rest (place + 1) q reply) → is_at memory place ≡ false → (c : Course) → (act token m a p).course ≡ c → (act token m a p).reply ≡ None → (while_going (acts_on token m memory (place + 1) rest) c (act token m a p)).reply ≡ Some reply → IsFirst (a ∷ rest) place p reply
  behind_other a rest place p reply holds there goes_on going none is =
      first_of_more a rest place p reply there going (holds (act token m a p) going none is)
  behind_other a rest place p reply holds there ended over none is = nothing_made (act token m a p) reply none is
  behind_other a rest place p reply holds there waits over none is = nothing_made (act token m a p) reply none is

  by_action : (a : Action) (rest : List Action) (place : ℕ) (p : Acts) (reply : MessageData) → ((q : Acts) → q.course ≡ goes_on → q.reply ≡ None → (acts_on token m memory (place + 1) rest q).reply ≡ Some reply → IsFirst rest (place + 1) q reply) → is_at memory place ≡ false → p.course ≡ goes_on → p.reply ≡ None → (then_on (acts_on token m memory (place + 1) rest) (act token m a p)).reply ≡ Some reply → IsFirst (a ∷ rest) place p reply
  by_action (action.Reply t) rest place p reply holds there going none is = first_there t rest place p reply going none there is
  by_action (action.Post to t back) rest place p reply holds there going none is =
      behind_other (action.Post to t back) rest place p reply holds there (act token m (action.Post to t back) p).course refl (act_leaves token m (action.Post to t back) p tt ∙ none) is
  by_action (action.Ask to t into) rest place p reply holds there going none is =
      behind_other (action.Ask to t into) rest place p reply holds there (act token m (action.Ask to t into) p).course refl (act_leaves token m (action.Ask to t into) p tt ∙ none) is
  by_action (action.Set property value) rest place p reply holds there going none is =
      behind_other (action.Set property value) rest place p reply holds there (act token m (action.Set property value) p).course refl (act_leaves token m (action.Set property value) p tt ∙ none) is
  by_action (action.Add property amount) rest place p reply holds there going none is =
      behind_other (action.Add property amount) rest place p reply holds there (act token m (action.Add property amount) p).course refl (act_leaves token m (action.Add property amount) p tt ∙ none) is
  by_action action.Stop rest place p reply holds there going none is =
      behind_other action.Stop rest place p reply holds there (act token m action.Stop p).course refl (act_leaves token m action.Stop p tt ∙ none) is
  by_action action.Quit rest place p reply holds there going none is =
      behind_other action.Quit rest place p reply holds there (act token m action.Quit p).course refl (act_leaves token m action.Quit p tt ∙ none) is

  by_place : (b : Bool) (a : Action) (rest : List Action) (place : ℕ) (p : Acts) (reply : MessageData) → (is_at memory place ≡ false → (then_on (acts_on token m memory (place + 1) rest) (act token m a p)).reply ≡ Some reply → IsFirst (a ∷ rest) place p reply) → p.reply ≡ None → is_at memory place ≡ b → (cond b (out_of_memory p) (then_on (acts_on token m memory (place + 1) rest) (act token m a p))).reply ≡ Some reply → IsFirst (a ∷ rest) place p reply
  by_place true a rest place p reply holds none at is = nothing_made p reply none is
  by_place false a rest place p reply holds none at is = holds at is

  first_from : (actions : List Action) (place : ℕ) (p : Acts) (reply : MessageData) → p.course ≡ goes_on → p.reply ≡ None → (acts_on token m memory place actions p).reply ≡ Some reply → IsFirst actions place p reply
  first_from [] place p reply going none is = nothing_made p reply none is
  first_from (a ∷ rest) place p reply going none is =
      by_place (is_at memory place) a rest place p reply
      (λ there made. by_action a rest place p reply (λ q further still. first_from rest (place + 1) q reply further still) there going none made) none refl is

  -- ---- what a first reply action makes is the reply
  no_course : {X : Type 0} (c : Course) → c ≡ goes_on → c ≡ ended → X
  no_course c e f = absurd cc

  no_wait : {X : Type 0} (c : Course) → c ≡ goes_on → c ≡ waits → X
  no_wait c e f = absurd cc

  -- actions that go on, and what comes behind them
  split_by : (b : Bool) (c : Course) (a : Action) (before rest : List Action) (place : ℕ) (p : Acts) → ((q : Acts) → (acts_on token m memory (place + 1) before q).course ≡ goes_on → acts_on token m memory (place + 1) (before ++ rest) q ≡ acts_on token m memory (place + 1 + length before) rest (acts_on token m memory (place + 1) before q)) → (act token m a p).course ≡ c → (cond b (out_of_memory p) (while_going (acts_on token m memory (place + 1) before) c (act token m a p))).course ≡ goes_on → cond b (out_of_memory p) (while_going (acts_on token m memory (place + 1) (before ++ rest)) c (act token m a p)) ≡ acts_on token m memory (place + 1 + length before) rest (cond b (out_of_memory p) (while_going (acts_on token m memory (place + 1) before) c (act token m a p)))
  split_by true c a before rest place p holds is going = no_course ended going refl
  split_by false goes_on a before rest place p holds is going = holds (act token m a p) going
  split_by false ended a before rest place p holds is going = no_course (act token m a p).course going is
  split_by false waits a before rest place p holds is going = no_wait (act token m a p).course going is

  pub acts_on-append : (before rest : List Action) (place : ℕ) (p : Acts) → (acts_on token m memory place before p).course ≡ goes_on → acts_on token m memory place (before ++ rest) p ≡ acts_on token m memory (place + length before) rest (acts_on token m memory place before p)
  acts_on-append [] rest place p going =
      let at : place ≡ place + length {A = Action} [] = omega arith in
      ap (λ n. acts_on token m memory n rest p) at
  acts_on-append (a ∷ before) rest place p going =
      let one_on : place + 1 + length before ≡ place + length (a ∷ before) = omega arith in
      split_by (is_at memory place) (act token m a p).course a before rest place p (λ q on. acts_on-append before rest (place + 1) q on) refl going
      ∙ ap (λ n. acts_on token m memory n rest (acts_on token m memory place (a ∷ before) p)) one_on

  reply_made : (t : Template) (behind : List Action) (place : ℕ) (p : Acts) → is_at memory place ≡ false → p.reply ≡ None → (acts_on token m memory place (action.Reply t ∷ behind) p).reply ≡ Some (built (row_of p.state token) m t)
  reply_made t behind place p there none =
      ap (λ (b : Bool). (cond b (out_of_memory p) (then_on (acts_on token m memory (place + 1) behind) (act token m (action.Reply t) p))).reply) there
      ∙ stays_then (act token m (action.Reply t) p).course (place + 1) behind (act token m (action.Reply t) p) (built (row_of p.state token) m t) (act_replies token m t p none)

pub reply_is_first_holds : ReplyIsFirst
reply_is_first_holds s token m actions answers memory reply = (there, back)
  where
    there : (acts_on token m memory 0 actions (opened s answers)).reply ≡ Some reply → IsFirstReply s token m actions answers memory reply
    there is =
        let f = first_from token m memory actions 0 (opened s answers) reply refl refl is in
        let at : 0 + length f.before ≡ length f.before = omega arith in
        record {
          before = f.before;
          template = f.template;
          behind = f.behind;
          parts = f.parts;
          comes = f.comes;
          none_before = f.none_before;
          has_memory = subst (λ n. is_at memory n ≡ false) at f.has_memory;
          made = f.made;
        }

    back : IsFirstReply s token m actions answers memory reply → (acts_on token m memory 0 actions (opened s answers)).reply ≡ Some reply
    back f =
        let at : length f.before ≡ 0 + length f.before = omega arith in
        let p = acts_on token m memory 0 f.before (opened s answers) in
        ap (λ (l : List Action). (acts_on token m memory 0 l (opened s answers)).reply) f.parts
        ∙ ap (λ (q : Acts). q.reply) (acts_on-append token m memory f.before (action.Reply f.template ∷ f.behind) 0 (opened s answers) f.comes)
        ∙ reply_made token m memory f.template f.behind (0 + length f.before) p (subst (λ n. is_at memory n ≡ false) at f.has_memory) f.none_before
        ∙ ap Some (sym f.made)
