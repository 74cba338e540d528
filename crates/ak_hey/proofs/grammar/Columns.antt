-- A line is read exactly where it says something, and else it is refused at the first word with which it can't go on.
use Rattle.std.proofs.Common.{◌≡◌, ◌⊎◌, inl, inr, ℕ, List, [], ◌∷◌, ◌++◌, Option, Some, None, Result, Ok, Err, refl, sym, ap, subst, ◌∙◌, append_assoc}
use Rattle.std.specs.Prelude.{ok_or}
use Rattle.std.proofs.lemmas.List.{map-append, append-nil}
use Rattle.ak_base.specs.Option.{◌>>=◌}
use Rattle.ak_base.specs.declared.app_word.AppWord.{AppWord}
use Rattle.ak_base.specs.declared.limited.Limited.{Limited}
use Rattle.ak_base.specs.declared.limited.Limited.TheVariants.{Within, Over}
use Rattle.ak_input.specs.declared.line.Word.{Word}
use Rattle.ak_message.specs.Message.{MessageData}
use Rattle.ak_hey.specs.declared.HeyLine.{HeyLine}
use Rattle.ak_hey.specs.declared.fault.HeyFault.{HeyFault}
use Rattle.ak_hey.specs.declared.fault.HeyFault.TheVariants as fault
use Rattle.ak_hey.specs.Answers.{IsTold}
use Rattle.ak_hey.specs.Grammar.{Begins}
use Rattle.ak_hey.specs.Hey.{State, start, next, finished, or_column, goes_on, hey_of}
use Rattle.ak_hey.specs.Laws.{texts, SaidIsRead, IsFirstBad, EndsEarly, RefusedAtFirstBad, IsRefusal, IsLineOf}
use Rattle.ak_hey.specs.Seen.{line_of}
use Rattle.ak_hey.proofs.grammar.Again.{hey_again}
use Rattle.ak_hey.proofs.grammar.Completing.{completes}
use Rattle.ak_hey.proofs.grammar.Takes.{hey_takes}
use Rattle.ak_hey.proofs.grammar.Walks.{Said, said, after, said_after, goes_said, said_goes}

pub said_is_read : SaidIsRead
said_is_read end words app message =
    (λ e. hey_takes (texts words) (app, message) (goes_said end start words (app, message) e), λ is. said_goes end start words (app, message) (hey_again (texts words) app message is))

-- ---- where it stops
-- at a word
pub record Stops (s : State) (words : List Word) (column : ℕ) : Type 0 where
  pub front : List Word
  pub word : Word
  pub behind : List Word
  pub all : words ≡ front ++ word ∷ behind
  pub at : State
  pub led : after s (texts front) ≡ Some at
  pub bad : next at word.bytes ≡ None
  pub column_is : column ≡ word.column

-- or at the end
pub record Lacks (end : ℕ) (s : State) (words : List Word) (column : ℕ) : Type 0 where
  pub at : State
  pub led : after s (texts words) ≡ Some at
  pub none : finished at ≡ None
  pub column_is : column ≡ end

lacks : (end column : ℕ) (o : Option Said) → ok_or o end ≡ Err column → (o ≡ None) × (column ≡ end)
lacks end column None e = (refl, cc)
lacks end column (Some r) e = absurd cc

abbrev refused_at : ℕ → Result Said ℕ
refused_at column = Err column

same_column : (at column : ℕ) → refused_at at ≡ refused_at column → column ≡ at
same_column at column e = cc

abbrev nothing_said : Option Said
nothing_said = None

not_said : (r : Said) → nothing_said ≡ Some r → ⊥
not_said r e = cc

stops : (end : ℕ) (s : State) (words : List Word) (column : ℕ) → goes_on end s words ≡ Err column → Stops s words column ⊎ Lacks end s words column
stops end s [] column e =
    let l = lacks end column (finished s) e in
    inr (record { at = s; led = refl; none = l.0; column_is = l.1 })
stops end s (w ∷ words) column e = by_next (next s w.bytes) refl e (λ t h. stops end t words column h) where
  by_next : (o : Option State) → next s w.bytes ≡ o → or_column w.column o (λ t. goes_on end t words) ≡ Err column → ((t : State) → goes_on end t words ≡ Err column → Stops t words column ⊎ Lacks end t words column) → Stops s (w ∷ words) column ⊎ Lacks end s (w ∷ words) column
  by_next None is e later = inl (record { front = []; word = w; behind = words; all = refl; at = s; led = refl; bad = is; column_is = same_column w.column column e })
  by_next (Some t) is e later = by_later (later t e) where
    by_later : Stops t words column ⊎ Lacks end t words column → Stops s (w ∷ words) column ⊎ Lacks end s (w ∷ words) column
    by_later (inl h) =
        inl
        (record {
          front = w ∷ h.front;
          word = h.word;
          behind = h.behind;
          all = ap (λ (ws : List Word). w ∷ ws) h.all;
          at = h.at;
          led = ap (λ (o : Option State). o >>= λ u. after u (texts h.front)) is ∙ h.led;
          bad = h.bad;
          column_is = h.column_is;
        })
    by_later (inr h) = inr (record { at = h.at; led = ap (λ (o : Option State). o >>= λ u. after u (texts words)) is ∙ h.led; none = h.none; column_is = h.column_is })

-- ---- what leads somewhere begins a hey line
begins : (ts : List (List ℕ)) (at : State) → after start ts ≡ Some at → Begins ts
begins ts at led =
    let c = completes at in
    (c.0, c.1.0, c.1.1, hey_takes (ts ++ c.0) c.1 (said_after start at ts c.0 led ∙ c.2))

-- and what does not begins none
begins_none : (ts : List (List ℕ)) (at : State) (w : List ℕ) → after start ts ≡ Some at → next at w ≡ None → Begins (ts ++ w ∷ []) → ⊥
begins_none ts at w led bad b =
    let e = hey_again ((ts ++ w ∷ []) ++ b.0) b.1 b.2 b.3 in
    let whole : (ts ++ w ∷ []) ++ b.0 ≡ ts ++ w ∷ b.0 = append_assoc ts (w ∷ []) b.0 in
    let none : said at (w ∷ b.0) ≡ None = ap (λ (o : Option State). o >>= λ t. said t b.0) bad in
    not_said (b.1, b.2) (sym none ∙ sym (said_after start at ts (w ∷ b.0) led) ∙ ap (λ (ws : List (List ℕ)). said start ws) (sym whole) ∙ e)

pub refused_at_first_bad : RefusedAtFirstBad
refused_at_first_bad end words column e = by_end (stops end start words column e) where
  by_end : Stops start words column ⊎ Lacks end start words column → IsFirstBad words column ⊎ EndsEarly end words column
  by_end (inl h) =
      inl
      (record {
        front = h.front;
        word = h.word;
        behind = h.behind;
        all = h.all;
        begins = begins (texts h.front) h.at h.led;
        bad = λ b. begins_none (texts h.front) h.at h.word.bytes h.led h.bad (subst Begins (map-append (λ (w : Word). w.bytes) h.front (h.word ∷ [])) b);
        column_is = h.column_is;
      })
  by_end (inr h) =
      inr
      (record {
        begins = begins (texts words) h.at h.led;
        none = λ app message is. no_end app message (hey_again (texts words) app message is);
        column_is = h.column_is;
      }) where
        no_end : (app : AppWord) (message : Limited MessageData) → said start (texts words) ≡ Some (app, message) → ⊥
        no_end app message e =
            let ended : said start (texts words) ≡ finished h.at = ap (λ (ws : List (List ℕ)). said start ws) (sym (append-nil (texts words))) ∙ said_after start h.at (texts words) [] h.led in
            not_said (app, message) (sym (ended ∙ h.none) ∙ e)

-- ---- the answer
pub line_said : (end : ℕ) (words : List Word) (line : HeyLine) → hey_of end words ≡ Ok (line_of line) → IsLineOf words line
line_said end words line e = (said_is_read end words line.app (Within line.message)).0 e

pub is_refusal : (end : ℕ) (words : List Word) (f : HeyFault) → IsTold f (hey_of end words) → IsRefusal end words f
is_refusal end words (fault.Bad column) e = refused_at_first_bad end words column e
is_refusal end words fault.TooLong e = (e.0, (said_is_read end words e.0 Over).0 e.1)
is_refusal end words fault.NoMemory e = tt
