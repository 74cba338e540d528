-- The lines of actions: what their words say is what is read of them.
use Rattle.std.proofs.Common.{◌≡◌, ◌↔◌, ℕ, Bool, true, false, cond, List, [], ◌∷◌, ◌++◌, Option, Some, None, refl, sym, ap, subst, ◌∙◌, append_assoc, append-nil}
use Rattle.std.specs.Prelude.{codes, option_map, option_and_then}
use Rattle.std.specs.Str.{bytes_eq}
use Rattle.std.proofs.lemmas.Option.{same_Some}
use Rattle.std.proofs.lemmas.Slice.Eq.{bytes_eq-Decides}
use Rattle.ak_base.specs.declared.app_word.AppWord.TheVariants as app
use Rattle.ak_base.specs.Word.{is_word}
use Rattle.ak_base.specs.Option.{where_true, ◌>>=◌}
use Rattle.ak_base.specs.declared.limited.Limited.{Limited}
use Rattle.ak_base.specs.declared.limited.Limited.TheVariants.{Within, Over}
use Rattle.ak_base.specs.Limited.{limited_map}
use Rattle.ak_input.specs.Reading.{code_from, field_split}
use Rattle.ak_base.proofs.Surface.{bind_some, cond_some}
use Rattle.ak_input.specs.Written.{code_of}
use Rattle.ak_action.specs.declared.action.Action.{Action}
use Rattle.ak_action.specs.declared.action.Action.TheVariants as action
use Rattle.ak_action.specs.declared.action.Dest.{Dest}
use Rattle.ak_action.specs.declared.action.Dest.TheVariants as dest
use Rattle.ak_action.specs.declared.number.Number.{Number}
use Rattle.ak_action.specs.declared.template.Given.{Given}
use Rattle.ak_action.specs.declared.template.Template.{Template}
use Rattle.ak_describe.specs.declared.parts.PropertyParts.{PropertyParts}
use Rattle.ak_describe.specs.Actions.{dest_at, may_be_asked, property_name, set_given, template_form, reply_form, back_at, back_behind, post_action, post_form, into_at_end, into_found, into_behind, ask_action, ask_form, two_words, set_action, set_form, add_form}
use Rattle.ak_describe.specs.Grammar.{IsProperty, MayBeAsked, IsBack, SaysPost, IsInto, SaysAsk, SaysSet, SaysAdd}
use Rattle.ak_describe.specs.Made.{number_from}
use Rattle.ak_describe.specs.Parts.{property_named}
use Rattle.ak_describe.specs.Pass.{bare, added_form}
use Rattle.ak_describe.specs.Says.{replied, SaysReply, SaysBare}
use Rattle.ak_describe.specs.Words.{behind_first, last_of, name_of}
use Rattle.ak_describe.proofs.Lasts.{last_of-push}
use Rattle.ak_describe.proofs.grammar.Dests.{dest_is_read}
use Rattle.ak_describe.proofs.grammar.Fields.{property_again, property_takes, set_given_is_read}
use Rattle.ak_describe.proofs.grammar.Messages.{message_is_read, not_in_message}
use Rattle.ak_describe.proofs.grammar.Values.{number_is_read}

-- ---- the last word
last_takes : (words : List (List ℕ)) (last : List ℕ × List (List ℕ)) → last_of words ≡ Some last → words ≡ last.1 ++ last.0 ∷ []
last_takes [] last e = absurd cc
last_takes (v ∷ words) last e = by_last (last_of words) refl e (last_takes words) (no_words words) where
  no_words : (ws : List (List ℕ)) → last_of ws ≡ None → ws ≡ []
  no_words [] e = refl
  no_words (u ∷ ws) e = absurd (never (last_of ws) e) where
    never : (o : Option (List ℕ × List (List ℕ))) → behind_first u o ≡ None → ⊥
    never None e = cc
    never (Some x) e = cc

  by_last : (o : Option (List ℕ × List (List ℕ))) → last_of words ≡ o → behind_first v o ≡ Some last → ((l : List ℕ × List (List ℕ)) → last_of words ≡ Some l → words ≡ l.1 ++ l.0 ∷ [])
      → (last_of words ≡ None → words ≡ []) → v ∷ words ≡ last.1 ++ last.0 ∷ []
  by_last None is e later none =
      let same = same_Some {A = List ℕ × List (List ℕ)} (v, []) last e in
      ap (λ (ws : List (List ℕ)). v ∷ ws) (none is) ∙ ap (λ (l : List ℕ × List (List ℕ)). l.1 ++ l.0 ∷ []) same
  by_last (Some l) is e later none =
      let same = same_Some {A = List ℕ × List (List ℕ)} (l.0, v ∷ l.1) last e in
      ap (λ (ws : List (List ℕ)). v ∷ ws) (later l is) ∙ ap (λ (l : List ℕ × List (List ℕ)). l.1 ++ l.0 ∷ []) same

-- ---- `back`
no_back : (code_of (codes "back") ≡ None) × (field_split (codes "back") ≡ None)
unfolding code_from field_split
no_back = (refl, refl)

abbrev with_back : Bool → List (List ℕ) → Bool × List (List ℕ)
with_back back words = (back, words)

back_again : (properties : List PropertyParts) (message part : List (List ℕ)) (t : Limited Template) (back : Bool) → template_form properties message ≡ Some t → IsBack back part
    → back_behind (message ++ part) ≡ with_back back message
back_again properties message part t true read is =
    ap (λ (p : List (List ℕ)). back_behind (message ++ p)) is ∙ ap (back_at (message ++ codes "back" ∷ [])) (last_of-push message (codes "back"))
back_again properties message part t false read is =
    ap (λ (p : List (List ℕ)). back_behind (message ++ p)) is ∙ ap back_behind (append-nil message) ∙ by_last (last_of message) refl where
      by_word : (last : List ℕ × List (List ℕ)) → last_of message ≡ Some last → (same : Bool) → bytes_eq last.0 (codes "back") ≡ same → cond same (with_back true last.1) (with_back false message) ≡ with_back false message
      by_word last e true same =
          let all : message ≡ last.1 ++ codes "back" ∷ [] = last_takes message last e ∙ ap (λ (w : List ℕ). last.1 ++ w ∷ []) ((bytes_eq-Decides last.0 (codes "back")).0 same) in
          absurd (not_in_message properties (codes "back") last.1 [] t no_back.0 no_back.1 (ap (template_form properties) (sym all) ∙ read))
      by_word last e false same = refl

      by_last : (o : Option (List ℕ × List (List ℕ))) → last_of message ≡ o → back_at message o ≡ with_back false message
      by_last None e = refl
      by_last (Some last) e = by_word last e (bytes_eq last.0 (codes "back")) refl

pub record BackParts (words : List (List ℕ)) (read : Bool × List (List ℕ)) : Type 0 where
  pub part : List (List ℕ)
  pub all : words ≡ read.1 ++ part
  pub is : IsBack read.0 part

back_takes : (words : List (List ℕ)) → BackParts words (back_behind words)
back_takes words = by_last (last_of words) refl where
  by_word : (last : List ℕ × List (List ℕ)) → last_of words ≡ Some last → (same : Bool) → bytes_eq last.0 (codes "back") ≡ same → BackParts words (cond same (with_back true last.1) (with_back false words))
  by_word last e true same =
      record { part = codes "back" ∷ []; all = last_takes words last e ∙ ap (λ (w : List ℕ). last.1 ++ w ∷ []) ((bytes_eq-Decides last.0 (codes "back")).0 same); is = refl }
  by_word last e false same = record { part = []; all = sym (append-nil words); is = refl }

  by_last : (o : Option (List ℕ × List (List ℕ))) → last_of words ≡ o → BackParts words (back_at words o)
  by_last None e = record { part = []; all = sym (append-nil words); is = refl }
  by_last (Some last) e = by_word last e (bytes_eq last.0 (codes "back")) refl

-- ---- `post`
abbrev post_read : List PropertyParts → Option (Dest × List (List ℕ)) → Option (Limited Action)
post_read properties o = o >>= λ to. template_form properties (back_behind to.1).1 >>= λ t. Some (post_action to.0 (back_behind to.1).0 t)

post-is : (properties : List PropertyParts) (words : List (List ℕ)) → post_form properties words ≡ post_read properties (dest_at words)
unfolding post_form
post-is properties words = refl

abbrev post_with : List PropertyParts → Dest → Bool × List (List ℕ) → Option (Limited Action)
post_with properties to read = template_form properties read.1 >>= λ t. Some (post_action to read.0 t)

post_again : (properties : List PropertyParts) (words : List (List ℕ)) (a : Limited Action) → SaysPost properties words a → post_form properties words ≡ Some a
post_again properties words a h =
    let read = (message_is_read properties h.message_part h.message).0 h.message_is in
    let at = (dest_is_read words h.to (h.message_part ++ h.back_part)).1 (h.to_part, h.all, h.to_is) in
    let back = back_again properties h.message_part h.back_part h.message h.back read h.back_is in
    post-is properties words ∙ ap (post_read properties) at ∙ ap (post_with properties h.to) back
    ∙ ap (λ (o : Option (Limited Template)). o >>= λ t. Some (post_action h.to h.back t)) read ∙ ap (λ (x : Limited Action). Some x) (sym h.kept)

post_made : (properties : List PropertyParts) (words : List (List ℕ)) (a : Limited Action) (to : Dest) (rest : List (List ℕ)) (t : Limited Template) → dest_at words ≡ Some (to, rest)
    → template_form properties (back_behind rest).1 ≡ Some t → Some (post_action to (back_behind rest).0 t) ≡ Some a → SaysPost properties words a
post_made properties words a to rest t at read made =
    let d = (dest_is_read words to rest).0 at in
    let back = back_takes rest in
    record {
      to_part = d.0;
      message_part = (back_behind rest).1;
      back_part = back.part;
      all = d.1 ∙ ap (λ (ws : List (List ℕ)). d.0 ++ ws) back.all;
      to = to;
      to_is = d.2;
      message = t;
      message_is = (message_is_read properties (back_behind rest).1 t).1 read;
      back = (back_behind rest).0;
      back_is = back.is;
      kept = sym (same_Some (post_action to (back_behind rest).0 t) a made);
    }

post_takes : (properties : List PropertyParts) (words : List (List ℕ)) (a : Limited Action) → post_form properties words ≡ Some a → SaysPost properties words a
post_takes properties words a e =
    let s = bind_some (dest_at words) (λ to. post_with properties to.0 (back_behind to.1)) a (sym (post-is properties words) ∙ e) in
    let r = bind_some (template_form properties (back_behind s.0.1).1) (λ t. Some (post_action s.0.0 (back_behind s.0.1).0 t)) a s.2 in
    post_made properties words a s.0.0 s.0.1 r.0 s.1 r.1 r.2

pub post_is_read : (properties : List PropertyParts) (words : List (List ℕ)) (a : Limited Action) → SaysPost properties words a ↔ (post_form properties words ≡ Some a)
post_is_read properties words a = (post_again properties words a, post_takes properties words a)

-- ---- `into NAME`
no_into : (code_of (codes "into") ≡ None) × (field_split (codes "into") ≡ None)
unfolding code_from field_split
no_into = (refl, refl)

abbrev end_read : Option (List ℕ × List (List ℕ)) → Option (List ℕ × List (List ℕ))
end_read o = o >>= λ name. last_of name.1 >>= λ key. where_true (bytes_eq key.0 (codes "into")) (name.0, key.1)

end-is : (words : List (List ℕ)) → into_at_end words ≡ end_read (last_of words)
unfolding into_at_end
end-is words = refl

end_again : (words : List (List ℕ)) (name : List ℕ) → into_at_end (words ++ codes "into" ∷ name ∷ []) ≡ Some (name, words)
end_again words name =
    let all : words ++ codes "into" ∷ name ∷ [] ≡ (words ++ codes "into" ∷ []) ++ name ∷ [] = sym (append_assoc words (codes "into" ∷ []) (name ∷ [])) in
    ap into_at_end all ∙ end-is ((words ++ codes "into" ∷ []) ++ name ∷ []) ∙ ap end_read (last_of-push (words ++ codes "into" ∷ []) name)
    ∙ ap (λ (o : Option (List ℕ × List (List ℕ))). o >>= λ key. where_true (bytes_eq key.0 (codes "into")) (name, key.1)) (last_of-push words (codes "into"))

end_takes : (words : List (List ℕ)) (last : List ℕ × List (List ℕ)) → into_at_end words ≡ Some last → words ≡ last.1 ++ codes "into" ∷ last.0 ∷ []
end_takes words last e =
    let s = bind_some (last_of words) (λ name. last_of name.1 >>= λ key. where_true (bytes_eq key.0 (codes "into")) (name.0, key.1)) last (sym (end-is words) ∙ e) in
    let r = bind_some (last_of s.0.1) (λ key. where_true (bytes_eq key.0 (codes "into")) (s.0.0, key.1)) last s.2 in
    let t = cond_some (bytes_eq r.0.0 (codes "into")) (s.0.0, r.0.1) last r.2 in
    let before : s.0.1 ≡ r.0.1 ++ codes "into" ∷ [] = last_takes s.0.1 r.0 r.1 ∙ ap (λ (w : List ℕ). r.0.1 ++ w ∷ []) ((bytes_eq-Decides r.0.0 (codes "into")).0 t.0) in
    let all : words ≡ r.0.1 ++ codes "into" ∷ s.0.0 ∷ [] =
    last_takes words s.0 s.1 ∙ ap (λ (ws : List (List ℕ)). ws ++ s.0.0 ∷ []) before ∙ append_assoc r.0.1 (codes "into" ∷ []) (s.0.0 ∷ []) in
    all ∙ ap (λ (l : List ℕ × List (List ℕ)). l.1 ++ codes "into" ∷ l.0 ∷ []) t.1

abbrev with_into : Option (List ℕ) → List (List ℕ) → Option (Option (List ℕ) × List (List ℕ))
with_into into words = Some (into, words)

into_again : (properties : List PropertyParts) (message part : List (List ℕ)) (t : Limited Template) (into : Option (List ℕ)) → template_form properties message ≡ Some t → IsInto properties into part
    → into_behind properties (message ++ part) ≡ with_into into message
into_again properties message part t (Some name) read is =
    let there = property_again properties name is.1 is.2 in
    ap (λ (p : List (List ℕ)). into_behind properties (message ++ p)) is.0
    ∙ ap (into_found properties (message ++ codes "into" ∷ name ∷ [])) (end_again message name)
    ∙ ap (λ (o : Option (List ℕ)). o >>= λ n. with_into (Some n) message) there
into_again properties message part t None read is =
    ap (λ (p : List (List ℕ)). into_behind properties (message ++ p)) is ∙ ap (into_behind properties) (append-nil message) ∙ by_end (into_at_end message) refl where
      by_end : (o : Option (List ℕ × List (List ℕ))) → into_at_end message ≡ o → into_found properties message o ≡ with_into None message
      by_end None e = refl
      by_end (Some last) e =
          absurd (not_in_message properties (codes "into") last.1 (last.0 ∷ []) t no_into.0 no_into.1 (ap (template_form properties) (sym (end_takes message last e)) ∙ read))

pub record IntoParts (properties : List PropertyParts) (words : List (List ℕ)) (read : Option (List ℕ) × List (List ℕ)) : Type 0 where
  pub part : List (List ℕ)
  pub all : words ≡ read.1 ++ part
  pub is : IsInto properties read.0 part

into_takes : (properties : List PropertyParts) (words : List (List ℕ)) (read : Option (List ℕ) × List (List ℕ)) → into_behind properties words ≡ Some read → IntoParts properties words read
into_takes properties words read e = by_end (into_at_end words) refl e where
  by_end : (o : Option (List ℕ × List (List ℕ))) → into_at_end words ≡ o → into_found properties words o ≡ Some read → IntoParts properties words read
  by_end None is e =
      let same = same_Some {A = Option (List ℕ) × List (List ℕ)} (None, words) read e in
      subst (IntoParts properties words) same (record { part = []; all = sym (append-nil words); is = refl })
  by_end (Some last) is e =
      let s = bind_some (property_name properties last.0) (λ n. with_into (Some n) last.1) read e in
      let p = property_takes properties last.0 s.0 s.1 in
      let same = same_Some {A = Option (List ℕ) × List (List ℕ)} (Some s.0, last.1) read s.2 in
      subst (IntoParts properties words) same
      (record {
        part = codes "into" ∷ s.0 ∷ [];
        all = end_takes words last is ∙ ap (λ (n : List ℕ). last.1 ++ codes "into" ∷ n ∷ []) p.2;
        is = (refl, subst (IsProperty properties) p.2 p.0, subst (λ (n : List ℕ). is_word n ≡ true) p.2 p.1);
      })

-- ---- `ask`
may_ask : (to : Dest) → MayBeAsked to → may_be_asked to ≡ true
may_ask dest.Own h = absurd h
may_ask (dest.Looper name) h = refl
may_ask (dest.Handler name) h = absurd h
may_ask (dest.App (app.Team team)) h = absurd h
may_ask (dest.App (app.Path path)) h = refl
may_ask (dest.App (app.Signature signature)) h = refl
may_ask (dest.App (app.Name name)) h = refl

asks_may : (to : Dest) → may_be_asked to ≡ true → MayBeAsked to
asks_may dest.Own h = absurd cc
asks_may (dest.Looper name) h = tt
asks_may (dest.Handler name) h = absurd cc
asks_may (dest.App (app.Team team)) h = absurd cc
asks_may (dest.App (app.Path path)) h = tt
asks_may (dest.App (app.Signature signature)) h = tt
asks_may (dest.App (app.Name name)) h = tt

abbrev asked_message : List PropertyParts → Dest → Option (List ℕ) × List (List ℕ) → Option (Limited Action)
asked_message properties to read = template_form properties read.1 >>= λ t. Some (ask_action to read.0 t)

abbrev asked_into : List PropertyParts → Dest → List (List ℕ) → Option (Limited Action)
asked_into properties to rest = into_behind properties rest >>= λ read. asked_message properties to read

abbrev ask_read : List PropertyParts → Option (Dest × List (List ℕ)) → Option (Limited Action)
ask_read properties o = o >>= λ to. where_true (may_be_asked to.0) to.1 >>= λ rest. asked_into properties to.0 rest

ask-is : (properties : List PropertyParts) (words : List (List ℕ)) → ask_form properties words ≡ ask_read properties (dest_at words)
unfolding ask_form
ask-is properties words = refl

ask_again : (properties : List PropertyParts) (words : List (List ℕ)) (a : Limited Action) → SaysAsk properties words a → ask_form properties words ≡ Some a
ask_again properties words a h =
    let read = (message_is_read properties h.message_part h.message).0 h.message_is in
    let at = (dest_is_read words h.to (h.message_part ++ h.into_part)).1 (h.to_part, h.all, h.to_is) in
    let into = into_again properties h.message_part h.into_part h.message h.into read h.into_is in
    ask-is properties words ∙ ap (ask_read properties) at
    ∙ ap (λ (may : Bool). where_true may (h.message_part ++ h.into_part) >>= λ rest. asked_into properties h.to rest) (may_ask h.to h.to_may)
    ∙ ap (λ (o : Option (Option (List ℕ) × List (List ℕ))). o >>= λ r. asked_message properties h.to r) into
    ∙ ap (λ (o : Option (Limited Template)). o >>= λ t. Some (ask_action h.to h.into t)) read ∙ ap (λ (x : Limited Action). Some x) (sym h.kept)

ask_made : (properties : List PropertyParts) (words : List (List ℕ)) (a : Limited Action) (to : Dest) (rest message : List (List ℕ)) (into : Option (List ℕ)) (t : Limited Template)
    → dest_at words ≡ Some (to, rest) → may_be_asked to ≡ true → into_behind properties rest ≡ Some (into, message)
    → template_form properties message ≡ Some t → Some (ask_action to into t) ≡ Some a → SaysAsk properties words a
ask_made properties words a to rest message into t at may end read made =
    let d = (dest_is_read words to rest).0 at in
    let parts = into_takes properties rest (into, message) end in
    record {
      to_part = d.0;
      message_part = message;
      into_part = parts.part;
      all = d.1 ∙ ap (λ (ws : List (List ℕ)). d.0 ++ ws) parts.all;
      to = to;
      to_is = d.2;
      to_may = asks_may to may;
      message = t;
      message_is = (message_is_read properties message t).1 read;
      into = into;
      into_is = parts.is;
      kept = sym (same_Some (ask_action to into t) a made);
    }

ask_takes : (properties : List PropertyParts) (words : List (List ℕ)) (a : Limited Action) → ask_form properties words ≡ Some a → SaysAsk properties words a
ask_takes properties words a e =
    let s = bind_some (dest_at words) (λ to. where_true (may_be_asked to.0) to.1 >>= λ rest. asked_into properties to.0 rest) a (sym (ask-is properties words) ∙ e) in
    let m = bind_some (where_true (may_be_asked s.0.0) s.0.1) (λ rest. asked_into properties s.0.0 rest) a s.2 in
    let may = cond_some (may_be_asked s.0.0) s.0.1 m.0 m.1 in
    let i = bind_some (into_behind properties m.0) (λ read. asked_message properties s.0.0 read) a m.2 in
    let r = bind_some (template_form properties i.0.1) (λ t. Some (ask_action s.0.0 i.0.0 t)) a i.2 in
    ask_made properties words a s.0.0 s.0.1 i.0.1 i.0.0 r.0 s.1 may.0 (ap (into_behind properties) may.1 ∙ i.1) r.1 r.2

pub ask_is_read : (properties : List PropertyParts) (words : List (List ℕ)) (a : Limited Action) → SaysAsk properties words a ↔ (ask_form properties words ≡ Some a)
ask_is_read properties words a = (ask_again properties words a, ask_takes properties words a)

-- ---- two words and no more
two_again : (a b : List ℕ) → two_words (a ∷ b ∷ []) ≡ Some (a, b)
unfolding two_words
two_again a b = refl

two_takes : (words : List (List ℕ)) (two : List ℕ × List ℕ) → two_words words ≡ Some two → words ≡ two.0 ∷ two.1 ∷ []
unfolding two_words
two_takes [] two e = absurd cc
two_takes (a ∷ []) two e = absurd cc
two_takes (a ∷ b ∷ []) two e = let same = same_Some {A = List ℕ × List ℕ} (a, b) two e in ap (λ (t : List ℕ × List ℕ). t.0 ∷ t.1 ∷ []) same
two_takes (a ∷ b ∷ c ∷ words) two e = absurd cc

-- ---- `set`
abbrev set_read : List PropertyParts → Option (List ℕ × List ℕ) → Option (Limited Action)
set_read properties o = o >>= λ two. property_name properties two.0 >>= λ property. set_given properties two.1 >>= λ g. Some (set_action property g)

set-form_is : (properties : List PropertyParts) (words : List (List ℕ)) → set_form properties words ≡ set_read properties (two_words words)
unfolding set_form
set-form_is properties words = refl

set_again : (properties : List PropertyParts) (words : List (List ℕ)) (a : Limited Action) → SaysSet properties words a → set_form properties words ≡ Some a
set_again properties words a h =
    set-form_is properties words ∙ ap (λ (ws : List (List ℕ)). set_read properties (two_words ws)) h.all ∙ ap (set_read properties) (two_again h.name h.word)
    ∙ ap (λ (o : Option (List ℕ)). o >>= λ property. set_given properties h.word >>= λ g. Some (set_action property g)) (property_again properties h.name h.name_is.0 h.name_is.1)
    ∙ ap (λ (o : Option (Limited Given)). o >>= λ g. Some (set_action h.name g)) ((set_given_is_read properties h.word h.value).0 h.value_is) ∙ ap (λ (x : Limited Action). Some x) (sym h.kept)

set_made : (properties : List PropertyParts) (words : List (List ℕ)) (a : Limited Action) (word name text : List ℕ) (g : Limited Given) → two_words words ≡ Some (word, text)
    → property_name properties word ≡ Some name → set_given properties text ≡ Some g → Some (set_action name g) ≡ Some a → SaysSet properties words a
set_made properties words a word name text g two there given made =
    let is = property_takes properties word name there in
    record {
      name = word;
      word = text;
      all = two_takes words (word, text) two;
      name_is = (is.0, is.1);
      value = g;
      value_is = (set_given_is_read properties text g).1 given;
      kept = sym (same_Some (set_action name g) a made) ∙ ap (λ (n : List ℕ). set_action n g) (sym is.2);
    }

set_takes : (properties : List PropertyParts) (words : List (List ℕ)) (a : Limited Action) → set_form properties words ≡ Some a → SaysSet properties words a
set_takes properties words a e =
    let s = bind_some (two_words words) (λ two. property_name properties two.0 >>= λ property. set_given properties two.1 >>= λ g. Some (set_action property g)) a (sym (set-form_is properties words) ∙ e) in
    let p = bind_some (property_name properties s.0.0) (λ property. set_given properties s.0.1 >>= λ g. Some (set_action property g)) a s.2 in
    let r = bind_some (set_given properties s.0.1) (λ g. Some (set_action p.0 g)) a p.2 in
    set_made properties words a s.0.0 p.0 s.0.1 r.0 s.1 p.1 r.1 r.2

pub set_is_read : (properties : List PropertyParts) (words : List (List ℕ)) (a : Limited Action) → SaysSet properties words a ↔ (set_form properties words ≡ Some a)
set_is_read properties words a = (set_again properties words a, set_takes properties words a)

-- ---- `add`
abbrev number_read : List ℕ → List ℕ → PropertyParts → Option Action
number_read name word p = number_from p.row.kind word >>= λ amount. name_of name >>= λ property. Some (action.Add property amount)

abbrev add_read : List PropertyParts → Option (List ℕ × List ℕ) → Option Action
add_read properties o = o >>= λ two. property_named properties two.0 >>= λ parts. number_read two.0 two.1 parts

add-is : (properties : List PropertyParts) (words : List (List ℕ)) → add_form properties words ≡ add_read properties (two_words words)
unfolding add_form
add-is properties words = refl

add_again : (properties : List PropertyParts) (words : List (List ℕ)) (a : Limited Action) → SaysAdd properties words a → added_form properties words ≡ Some a
add_again properties words a h =
    let amount = (number_is_read h.kind_is.0.row.kind h.word h.amount).0 (h.amount_is, sym h.kind_is.2) in
    let word : name_of h.name ≡ Some h.name = ap (λ (t : Bool). where_true t h.name) h.name_is in
    let read : add_form properties words ≡ Some (action.Add h.name h.amount) =
    add-is properties words ∙ ap (λ (ws : List (List ℕ)). add_read properties (two_words ws)) h.all ∙ ap (add_read properties) (two_again h.name h.word)
    ∙ ap (λ (o : Option PropertyParts). o >>= λ parts. number_read h.name h.word parts) h.kind_is.1
    ∙ ap (λ (o : Option Number). o >>= λ amount. name_of h.name >>= λ property. Some (action.Add property amount)) amount
    ∙ ap (λ (o : Option (List ℕ)). o >>= λ property. Some (action.Add property h.amount)) word in
    ap (option_and_then (λ (x : Action). Some (Within x))) read ∙ ap (λ (x : Limited Action). Some x) (sym h.kept)

add_made : (properties : List PropertyParts) (words : List (List ℕ)) (a : Limited Action) (word name text : List ℕ) (p : PropertyParts) (amount : Number) (made : Action)
    → two_words words ≡ Some (word, text) → property_named properties word ≡ Some p → number_from p.row.kind text ≡ Some amount → name_of word ≡ Some name
    → Some (action.Add name amount) ≡ Some made → Some (Within made) ≡ Some a → SaysAdd properties words a
add_made properties words a word name text p amount made two there read named is kept =
    let t = cond_some (is_word word) word name named in
    let number = (number_is_read p.row.kind text amount).1 read in
    record {
      name = word;
      word = text;
      all = two_takes words (word, text) two;
      name_is = t.0;
      amount = amount;
      amount_is = number.0;
      kind_is = (p, there, sym number.1);
      kept = sym (same_Some (Within made) a kept) ∙ ap (λ (x : Action). Within x) (sym (same_Some (action.Add name amount) made is) ∙ ap (λ (n : List ℕ). action.Add n amount) (sym t.1));
    }

add_takes : (properties : List PropertyParts) (words : List (List ℕ)) (a : Limited Action) → added_form properties words ≡ Some a → SaysAdd properties words a
add_takes properties words a e =
    let f = bind_some (add_form properties words) (λ x. Some (Within x)) a e in
    let s = bind_some (two_words words) (λ two. property_named properties two.0 >>= λ parts. number_read two.0 two.1 parts) f.0 (sym (add-is properties words) ∙ f.1) in
    let p = bind_some (property_named properties s.0.0) (λ parts. number_read s.0.0 s.0.1 parts) f.0 s.2 in
    let n = bind_some (number_from p.0.row.kind s.0.1) (λ amount. name_of s.0.0 >>= λ property. Some (action.Add property amount)) f.0 p.2 in
    let w = bind_some (name_of s.0.0) (λ property. Some (action.Add property n.0)) f.0 n.2 in
    add_made properties words a s.0.0 w.0 s.0.1 p.0 n.0 f.0 s.1 p.1 n.1 w.1 w.2 f.2

pub added_is_read : (properties : List PropertyParts) (words : List (List ℕ)) (a : Limited Action) → SaysAdd properties words a ↔ (added_form properties words ≡ Some a)
added_is_read properties words a = (add_again properties words a, add_takes properties words a)

-- ---- `reply`
replied-is : (t : Limited Template) → replied t ≡ limited_map action.Reply t
replied-is Over = refl
replied-is (Within m) = refl

abbrev reply_read : Option (Limited Template) → Option (Limited Action)
reply_read o = option_map (λ (t : Limited Template). limited_map action.Reply t) o

reply-is : (properties : List PropertyParts) (words : List (List ℕ)) → reply_form properties words ≡ reply_read (template_form properties words)
unfolding reply_form
reply-is properties words = refl

reply_again : (properties : List PropertyParts) (words : List (List ℕ)) (a : Limited Action) → SaysReply properties words a → reply_form properties words ≡ Some a
reply_again properties words a h =
    reply-is properties words ∙ ap reply_read ((message_is_read properties words h.0).0 h.1) ∙ ap (λ (x : Limited Action). Some x) (sym (replied-is h.0) ∙ sym h.2)

reply_takes : (properties : List PropertyParts) (words : List (List ℕ)) (a : Limited Action) → reply_form properties words ≡ Some a → SaysReply properties words a
reply_takes properties words a e = by_read (template_form properties words) refl (sym (reply-is properties words) ∙ e) where
  by_read : (o : Option (Limited Template)) → template_form properties words ≡ o → reply_read o ≡ Some a → SaysReply properties words a
  by_read None is e = absurd cc
  by_read (Some t) is e =
      let same = same_Some (limited_map action.Reply t) a e in
      (t, (message_is_read properties words t).1 is, sym same ∙ sym (replied-is t))

pub reply_is_read : (properties : List PropertyParts) (words : List (List ℕ)) (a : Limited Action) → SaysReply properties words a ↔ (reply_form properties words ≡ Some a)
reply_is_read properties words a = (reply_again properties words a, reply_takes properties words a)

-- ---- `drop`, `quit`
bare_takes : (x : Action) (properties : List PropertyParts) (words : List (List ℕ)) (a : Limited Action) → bare x words ≡ Some a → SaysBare x properties words a
bare_takes x properties [] a e = let same = same_Some (Within x) a e in (refl, sym same)
bare_takes x properties (w ∷ words) a e = absurd cc

pub bare_is_read : (x : Action) (properties : List PropertyParts) (words : List (List ℕ)) (a : Limited Action) → SaysBare x properties words a ↔ (bare x words ≡ Some a)
bare_is_read x properties words a = (
  λ h. ap (bare x) h.0 ∙ ap (λ (o : Limited Action). Some o) (sym h.1),
  bare_takes x properties words a,
)
