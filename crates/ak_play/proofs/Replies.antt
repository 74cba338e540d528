-- Each reply that is told is the one that its slot got.
use Rattle.std.proofs.Common.{◌≡◌, ℕ, zero, suc, ◌+◌, Bool, true, cond, List, [], ◌∷◌, ◌++◌, All, Contains, Some, None, slice_get, length, length-append, refl, sym, ap, ◌∙◌, subst, append_assoc, eq-eqb, arith}
use Rattle.std.specs.Prelude.{IfSome, IsSomeAnd, Option, option_map, unwrap_or}
use Rattle.std.proofs.lemmas.List.Elements.{All-contains, Contains-append_left}
use Rattle.ak_message.specs.declared.address.Address.{Address}
use Rattle.ak_message.specs.Message.{MessageData}
use Rattle.ak_flatten.specs.declared.item.Duty.TheVariants as duty
use Rattle.ak_flatten.specs.Item.{ItemData}
use Rattle.ak_flatten.specs.Laws.{Spells}
use Rattle.ak_turn.specs.Noted.{StandsIn, noted}
use Rattle.ak_turn.proofs.Surface.{noted_stands}
use Rattle.ak_base.specs.Thread.{main_thread}
use Rattle.ak_roster.specs.declared.head.AppHead.{AppHead}
use Rattle.ak_describe.specs.Whole.{heads_of}
use Rattle.ak_describe.specs.declared.described.AppText.{AppText}
use Rattle.ak_port.specs.declared.reply_entry.ReplyEntry.{ReplyEntry}
use Rattle.ak_port.specs.declared.reply_entry.ReplyEvent.TheVariants as slot_event
use Rattle.ak_port.specs.PortCalls as at_ports
use Rattle.ak_port.specs.PortCalls.{IsPortBook, PortData}
use Rattle.ak_port.specs.PortMachine.{AreSteps, unmade}
use Rattle.ak_port.specs.Reply.{fills}
use Rattle.ak_port.specs.ReplySeats as at_books
use Rattle.ak_diary.specs.declared.histories.Histories.{Histories}
use Rattle.ak_diary.specs.Step.{Step, at_book, at_port, book_entries, book_entry, port_entries, port_entry, time_of}
use Rattle.ak_diary.specs.Wants.{Converses}
use Rattle.ak_headline.specs.Answers.{GotOneReply, IsAccepted}
use Rattle.ak_headline.specs.Headline.{EachGotOneReply}
use Rattle.ak_headline.specs.Run.{HasDone, port_list}
use Rattle.ak_headline.proofs.Surface.{accepted_there}
use Rattle.ak_script.specs.declared.statement.SessionLine.{SessionLine}
use Rattle.ak_script.specs.declared.statement.SessionLine.TheVariants as line
use Rattle.ak_script.specs.declared.statement.SessionLines.{SessionLines}
use Rattle.ak_script.specs.declared.statement.Statement.{Statement}
use Rattle.ak_script.specs.declared.statement.Statement.TheVariants as statement
use Rattle.ak_print.specs.declared.told.Told.{Told}
use Rattle.ak_block.specs.Carried.{AreCarried, SessionPart}
use Rattle.ak_print.specs.declared.told.Told.TheVariants as told
use Rattle.ak_session.specs.Doing.{address_of}
use Rattle.ak_lines.specs.declared.outcome.Outcome.{Outcome}
use Rattle.ak_lines.specs.declared.outcome.Outcome.TheVariants as came
use Rattle.ak_play.specs.Blocks.{IsBlock}
use Rattle.ak_lines.specs.Blocks.{AreLines, IsAnswered, IsLine, hey_item}
use Rattle.ak_lines.specs.Carried as lines
use Rattle.ak_play.specs.Parts.{AreParts, IsCut, IsMains, IsOfSessions, IsPart, Part, all_outcomes, all_steps, all_tolds, session_outcomes, session_tolds}
use Rattle.ak_play.specs.Play.{AreReplies, IsReplyOf, cut_outcomes, cut_tolds}
use Rattle.ak_play.specs.Sessions.{HasCarried}
use Rattle.ak_play.proofs.Lists.{in_gathered, the_one, within_parts}

-- the port's list is one that its machine allows
port_legal : (ports : List PortData) (k : ℕ) → All IsPortBook ports → (o : Option PortData) → slice_get ports k ≡ o → (taker : ℕ) × AreSteps taker unmade (unwrap_or (option_map (λ (port : PortData). port.entries) o) [])
port_legal ports k all None at = (0, tt)
port_legal ports k all (Some port) at = (port.taker.0, (port_of ports k all port at).steps)
  where
    port_of : (ports : List PortData) (k : ℕ) → All IsPortBook ports → (port : PortData) → slice_get ports k ≡ Some port → IsPortBook port
    port_of ports k all port at = All-contains IsPortBook ports port all (there ports k port at)
      where
        there : (ports : List PortData) (k : ℕ) (port : PortData) → slice_get ports k ≡ Some port → Contains ports port
        there [] k port at = absurd (cc at)
        there (x ∷ ports) zero port at = let same : x ≡ port = cc at in (zero, omega arith, same)
        there (x ∷ ports) (suc k) port at = let deeper = there ports k port at in (suc deeper.0, omega (arith, deeper.1), deeper.2)

same_text : (n : ℕ) (a b : List ℕ) → slot_event.Filled n a ≡ slot_event.Filled n b → a ≡ b
same_text n a b e = cc e

module _ (short : List ℕ) (h : Histories) (thread : ℕ) (steps : List Step) (ports : All IsPortBook h.ports.items) (done : HasDone h thread steps) (answered : EachGotOneReply short h) where
  -- a conversation of that thread's
  module _ (to : Address) (item : ItemData) (flat : List ℕ) (before after : List Step) (talk : List Step) (c : Converses to item flat talk) (whole : steps ≡ before ++ (talk ++ after)) where
    parted : steps ≡ before ++ at_book c.opened ∷ at_port to.looper c.written ∷ at_book c.taken ∷ after
    parted = whole ∙ ap (λ (l : List Step). before ++ (l ++ after)) c.is

    wrote : Contains (port_entries to.looper steps) c.written
    wrote =
        in_gathered (port_entry to.looper) steps (before ++ at_book c.opened ∷ []) (at_book c.taken ∷ after) (at_port to.looper c.written) c.written
        (parted ∙ sym (append_assoc before (at_book c.opened ∷ []) (at_port to.looper c.written ∷ at_book c.taken ∷ after)))
        (ap (λ (b : Bool). cond b (c.written ∷ []) []) (eq-eqb to.looper to.looper refl))

    took : Contains (book_entries steps) c.taken
    took =
        in_gathered book_entry steps (before ++ at_book c.opened ∷ at_port to.looper c.written ∷ []) after (at_book c.taken) c.taken
        (parted ∙ sym (append_assoc before (at_book c.opened ∷ at_port to.looper c.written ∷ []) (at_book c.taken ∷ after))) refl

    written_there : StandsIn (port_list h to.looper) c.written
    written_there =
        All-contains (StandsIn (port_list h to.looper)) (noted at_ports.by_number thread (port_list h to.looper)) c.written (noted_stands at_ports.by_number thread (port_list h to.looper))
        (subst (λ l. Contains l c.written) (sym (done.at_ports to.looper)) wrote)

    taken_there : StandsIn h.book c.taken
    taken_there =
        All-contains (StandsIn h.book) (noted at_books.maker_of thread h.book) c.taken (noted_stands at_books.maker_of thread h.book)
        (subst (λ l. Contains l c.taken) (sym done.at_book) took)

    -- its item was accepted
    accepted : IsAccepted h c.slot to.looper c.position (record item { duty = duty.Slot c.slot })
    accepted =
        let legal = port_legal h.ports.items to.looper ports (slice_get h.ports.items to.looper) refl in
        record {
          accepted = accepted_there legal.0 (port_list h to.looper) legal.1 c.written.before c.written.entry written_there.0
              (written_there.1 ∙ append_assoc c.written.before (c.written.entry ∷ []) written_there.0) c.position (record item { duty = duty.Slot c.slot }) c.written_is;
          owed = refl;
        }

    got : GotOneReply h short c.slot
    got = answered c.slot to.looper c.position (record item { duty = duty.Slot c.slot }) accepted

    -- the one entry that filled the slot has the text that was taken
    text_is : got.text ≡ flat
    text_is =
        let filled = c.filled in
        let entry = filled.1 in
        let there : Contains h.book entry = subst (λ (l : List ReplyEntry). Contains l entry) (sym taken_there.1)
        (Contains-append_left (c.taken.before ++ c.taken.entry ∷ []) taken_there.0 entry (Contains-append_left c.taken.before (c.taken.entry ∷ []) entry (filled.0, filled.2, filled.3))) in
        let it_fills : fills c.slot entry.event ≡ true = ap (fills c.slot) filled.4 ∙ eq-eqb c.slot c.slot refl in
        let same : entry ≡ got.filled = the_one (λ (e : ReplyEntry). fills c.slot e.event) h.book got.filled entry got.filled_once there it_fills in
        same_text c.slot got.text flat (sym got.text_is ∙ sym (ap (λ (e : ReplyEntry). e.event) same) ∙ filled.4)

  -- ---- of one block
  answered_so : (item : ItemData) (slot : ℕ) (message : MessageData) (looper : ℕ) (before after talk : List Step) → steps ≡ before ++ (talk ++ after) → IsAnswered item slot message looper talk → (got_it : GotOneReply h short slot) × Spells got_it.text message
  answered_so item slot message looper before after talk whole a =
      let c = a.answered.converses in
      let got_it = got (address_of looper item) item a.reply.flat before after talk c whole in
      let spells : Spells got_it.text a.reply.message =
      subst (λ (text : List ℕ). Spells text a.reply.message) (sym (text_is (address_of looper item) item a.reply.flat before after talk c whole)) a.spells in
      subst (λ (n : ℕ). (g : GotOneReply h short n) × Spells g.text message) (sym (a.slot_is ∙ sym a.answered.slot_is))
      (got_it, subst (λ (m : MessageData). Spells got_it.text m) (sym a.message_is) spells)

  hey_reply : (apps : List AppText) (s : Statement) (slot : ℕ) (message : MessageData) (before block after : List Step) → steps ≡ before ++ (block ++ after) → IsBlock apps s (came.Replied slot) (told.Reply message) block
      → (got_it : GotOneReply h short slot) × Spells got_it.text message
  hey_reply apps (statement.Launch l) slot message before block after whole is = absurd is
  hey_reply apps (statement.Post p) slot message before block after whole is = absurd is
  hey_reply apps (statement.Lock l) slot message before block after whole is = absurd is
  hey_reply apps (statement.Together q) slot message before block after whole is = absurd is
  hey_reply apps (statement.Hey q) slot message before block after whole is =
      answered_so (hey_item q) slot message (is.running.first + 0) (before ++ is.found) after is.rest (within_parts steps before block after is.found is.rest is.rest whole is.is refl) is.then_does.1

  one_reply : (apps : List AppText) (s : Statement) (o : Outcome) (t : Told) (before block after : List Step) → steps ≡ before ++ (block ++ after) → IsBlock apps s o t block → IsReplyOf short h o t
  one_reply apps s (came.Replied slot) (told.Reply message) before block after whole is = hey_reply apps s slot message before block after whole is
  one_reply apps s _ _ before block after whole is = tt

  -- ---- of one line of a session
  line_reply : (heads : List AppHead) (so_far : List Step) (l : SessionLine) (slot : ℕ) (message : MessageData) (before block after : List Step) → steps ≡ before ++ (block ++ after) → IsLine heads so_far l (came.Replied slot) (told.Reply message) block
      → (got_it : GotOneReply h short slot) × Spells got_it.text message
  line_reply heads so_far (line.Post p) slot message before block after whole is = absurd is
  line_reply heads so_far (line.Lock l) slot message before block after whole is = absurd is
  line_reply heads so_far (line.Hey q) slot message before block after whole is =
      let through = is.then_does.1 in
      let rest = within_parts steps before block after is.found is.rest is.rest whole is.is refl in
      answered_so (hey_item q) slot message (is.running.first + 0) ((before ++ is.found) ++ through.door) after through.rest
      (within_parts steps (before ++ is.found) is.rest after through.door through.rest through.rest rest through.is refl) through.then_does

  one_line : (heads : List AppHead) (so_far : List Step) (l : SessionLine) (o : Outcome) (t : Told) (before block after : List Step) → steps ≡ before ++ (block ++ after) → IsLine heads so_far l o t block → IsReplyOf short h o t
  one_line heads so_far l (came.Replied slot) (told.Reply message) before block after whole is = line_reply heads so_far l slot message before block after whole is
  one_line heads so_far l _ _ before block after whole is = tt

  pub line_replies : (heads : List AppHead) (so_far : List Step) (ls : List SessionLine) (os : List Outcome) (ts : List Told) (bs : List (List Step)) (before after : List Step) → steps ≡ before ++ (lines.all_steps bs ++ after) → AreLines heads so_far ls os ts bs → AreReplies short h os ts
  line_replies heads so_far ls [] [] [] before after whole are = tt
  line_replies heads so_far (l ∷ ls) (o ∷ os) (t ∷ ts) (b ∷ bs) before after whole are = (
    one_line heads so_far l o t before b (lines.all_steps bs ++ after) (whole ∙ ap (λ (xs : List Step). before ++ xs) (append_assoc b (lines.all_steps bs) after)) are.0,
    line_replies heads (so_far ++ b) ls os ts bs (before ++ b) after
        (whole ∙ ap (λ (xs : List Step). before ++ xs) (append_assoc b (lines.all_steps bs) after) ∙ sym (append_assoc before b (lines.all_steps bs ++ after))) are.1,
  )
  line_replies heads so_far _ _ _ _ before after whole are = absurd are

-- as many lines as outcomes
pub as_many : (heads : List AppHead) (so_far : List Step) (ls : List SessionLine) (os : List Outcome) (ts : List Told) (bs : List (List Step)) → AreLines heads so_far ls os ts bs → length os ≡ length ts
as_many heads so_far ls [] [] [] are = refl
as_many heads so_far (l ∷ ls) (o ∷ os) (t ∷ ts) (b ∷ bs) are = ap suc (as_many heads (so_far ++ b) ls os ts bs are.1)
as_many heads so_far _ _ _ _ are = absurd are

-- one behind another
pub replies-append : (short : List ℕ) (h : Histories) (os os' : List Outcome) (ts ts' : List Told) → length os ≡ length ts → AreReplies short h os ts → AreReplies short h os' ts' → AreReplies short h (os ++ os') (ts ++ ts')
replies-append short h [] os' [] ts' same one two = two
replies-append short h (o ∷ os) os' (t ∷ ts) ts' same one two = (one.0, replies-append short h os os' ts ts' (let less : length os ≡ length ts = omega (arith, same) in less) one.1 two)
replies-append short h [] os' (t ∷ ts) ts' same one two = absurd (omega (arith, same))
replies-append short h (o ∷ os) os' [] ts' same one two = absurd (omega (arith, same))

-- ---- of the sessions of a block
module _ (short : List ℕ) (h : Histories) (heads : List AppHead) (ports : All IsPortBook h.ports.items) (answered : EachGotOneReply short h) where
  one_session : (time n : ℕ) (ls : SessionLines) (part : SessionPart) → HasCarried heads h time n ls part → AreReplies short h part.outcomes part.tolds
  one_session time n ls part is =
      line_replies short h n (lines.all_steps is.did.blocks ++ is.did.stopped) ports is.done answered heads [] ls.lines.items part.outcomes part.tolds is.did.blocks [] is.did.stopped refl is.did.are

  sessions_replies : (time from : ℕ) (all : List SessionLines) (parts : List SessionPart) → AreCarried (HasCarried heads h time) from all parts → (length (session_outcomes parts) ≡ length (session_tolds parts)) × AreReplies short h (session_outcomes parts) (session_tolds parts)
  sessions_replies time from [] [] are = (refl, tt)
  sessions_replies time from (ls ∷ all) (part ∷ parts) are =
      let rest = sessions_replies time (from + 1) all parts are.1 in
      let same : length part.outcomes ≡ length part.tolds = as_many heads [] ls.lines.items part.outcomes part.tolds are.0.did.blocks are.0.did.are in (
        length-append part.outcomes (session_outcomes parts) ∙ both same rest.0 ∙ sym (length-append part.tolds (session_tolds parts)),
        replies-append short h part.outcomes (session_outcomes parts) part.tolds (session_tolds parts) same (one_session time from ls part are.0) rest.1,
      )
    where
      both : {a b c d : ℕ} → a ≡ b → c ≡ d → a + c ≡ b + d
      both one two = omega (arith, one, two)
  sessions_replies time from [] (part ∷ parts) are = absurd are
  sessions_replies time from (ls ∷ all) [] are = absurd are

  pub block_replies : (time from : ℕ) (all : List SessionLines) (part : Part) → IsOfSessions (HasCarried heads h) time from all part → (length part.outcomes ≡ length part.tolds) × AreReplies short h part.outcomes part.tolds
  block_replies time from all part is =
      let so = sessions_replies time from all is.parts is.carried in
      subst (λ (os : List Outcome). (length os ≡ length part.tolds) × AreReplies short h os part.tolds) (sym is.outcomes_are)
      (subst (λ (ts : List Told). (length (session_outcomes is.parts) ≡ length ts) × AreReplies short h (session_outcomes is.parts) ts) (sym is.tolds_are) so)

-- ---- of all statements
module _ (short : List ℕ) (h : Histories) (steps : List Step) (ports : All IsPortBook h.ports.items) (done : HasDone h main_thread steps) (answered : EachGotOneReply short h) (apps : List AppText) where
  mains_reply : (s : Statement) (part : Part) (before after : List Step) → steps ≡ before ++ (part.steps ++ after) → IsMains apps s part → (length part.outcomes ≡ length part.tolds) × AreReplies short h part.outcomes part.tolds
  mains_reply s part before after whole is =
      let one = one_reply short h main_thread steps ports done answered apps s is.outcome is.told before part.steps after whole is.is in
      subst (λ (os : List Outcome). (length os ≡ length part.tolds) × AreReplies short h os part.tolds) (sym is.outcomes_are)
      (subst (λ (ts : List Told). (length (is.outcome ∷ []) ≡ length ts) × AreReplies short h (is.outcome ∷ []) ts) (sym is.tolds_are) (refl, (one, tt)))

  part_replies : (time from : ℕ) (s : Statement) (part : Part) (before after : List Step) → steps ≡ before ++ (part.steps ++ after) → IsPart (HasCarried (heads_of apps) h) apps time from s part → (length part.outcomes ≡ length part.tolds) × AreReplies short h part.outcomes part.tolds
  part_replies time from (statement.Launch l) part before after whole is = mains_reply (statement.Launch l) part before after whole is
  part_replies time from (statement.Hey q) part before after whole is = mains_reply (statement.Hey q) part before after whole is
  part_replies time from (statement.Post p) part before after whole is = mains_reply (statement.Post p) part before after whole is
  part_replies time from (statement.Lock l) part before after whole is = mains_reply (statement.Lock l) part before after whole is
  part_replies time from (statement.Together t) part before after whole is = block_replies short h (heads_of apps) ports answered time from t.sessions.items part is

  pub parts_replies : (time from : ℕ) (ss : List Statement) (parts : List Part) (before after : List Step) → steps ≡ before ++ (all_steps parts ++ after) → AreParts (HasCarried (heads_of apps) h) apps time from ss parts
      → (length (all_outcomes parts) ≡ length (all_tolds parts)) × AreReplies short h (all_outcomes parts) (all_tolds parts)
  parts_replies time from ss [] before after whole are = (refl, tt)
  parts_replies time from (s ∷ ss) (part ∷ parts) before after whole are =
      let moved : steps ≡ before ++ (part.steps ++ (all_steps parts ++ after)) = whole ∙ ap (λ (l : List Step). before ++ l) (append_assoc part.steps (all_steps parts) after) in
      let one = part_replies time from s part before (all_steps parts ++ after) moved are.0 in
      let rest = parts_replies (time_of time part.steps) (from + part.sessions) ss parts (before ++ part.steps) after (moved ∙ sym (append_assoc before part.steps (all_steps parts ++ after))) are.1 in (
        length-append part.outcomes (all_outcomes parts) ∙ both one.0 rest.0 ∙ sym (length-append part.tolds (all_tolds parts)),
        replies-append short h part.outcomes (all_outcomes parts) part.tolds (all_tolds parts) one.0 one.1 rest.1,
      )
    where
      both : {a b c d : ℕ} → a ≡ b → c ≡ d → a + c ≡ b + d
      both one two = omega (arith, one, two)
  parts_replies time from [] (part ∷ parts) before after whole are = absurd are

  -- with those of a block that was cut
  cut_replies : (time from : ℕ) (o : Option Statement) (part : Part) → IsSomeAnd o (λ (s : Statement). IsCut (HasCarried (heads_of apps) h) time from s part) → AreReplies short h part.outcomes part.tolds
  cut_replies time from None part is = absurd is
  cut_replies time from (Some (statement.Launch l)) part is = absurd is
  cut_replies time from (Some (statement.Hey q)) part is = absurd is
  cut_replies time from (Some (statement.Post p)) part is = absurd is
  cut_replies time from (Some (statement.Lock l)) part is = absurd is
  cut_replies time from (Some (statement.Together t)) part is = (block_replies short h (heads_of apps) ports answered time from is.first part is.are).1

  last_replies : (time from : ℕ) (o : Option Statement) (cut : Option Part) → IfSome cut (λ (part : Part). IsSomeAnd o (λ (s : Statement). IsCut (HasCarried (heads_of apps) h) time from s part)) → AreReplies short h (cut_outcomes cut) (cut_tolds cut)
  last_replies time from o None is = tt
  last_replies time from o (Some part) is = cut_replies time from o part is

  pub replies : (ss : List Statement) (parts : List Part) (after : List Step) (time from : ℕ) (o : Option Statement) (cut : Option Part) → steps ≡ all_steps parts ++ after → AreParts (HasCarried (heads_of apps) h) apps 0 1 ss parts
      → IfSome cut (λ (part : Part). IsSomeAnd o (λ (s : Statement). IsCut (HasCarried (heads_of apps) h) time from s part)) → AreReplies short h (all_outcomes parts ++ cut_outcomes cut) (all_tolds parts ++ cut_tolds cut)
  replies ss parts after time from o cut whole are is =
      let all = parts_replies 0 1 ss parts [] after whole are in
      replies-append short h (all_outcomes parts) (cut_outcomes cut) (all_tolds parts) (cut_tolds cut) all.0 all.1 (last_replies time from o cut is)
