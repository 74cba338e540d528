-- What is read of a line: exactly what it adds, or what is wrong with it.
use Rattle.std.proofs.Common.{◌≡◌, ℕ, Bool, true, false, cond, List, [], ◌∷◌, Option, Some, None, bytes_eq, Result, Ok, Err, refl, sym, ap, subst, ◌∙◌}
use Rattle.std.proofs.lemmas.Bool.{cond-true}
use Rattle.std.proofs.lemmas.Slice.Eq.{bytes_eq-Decides}
use Rattle.ak_base.specs.declared.ending.RefusalKind.{RefusalKind}
use Rattle.ak_base.specs.declared.ending.RefusalKind.TheVariants as refusal
use Rattle.ak_input.specs.declared.line.Line.{Line}
use Rattle.ak_describe.specs.declared.keyword.Keyword.{Keyword}
use Rattle.ak_describe.specs.declared.keyword.Keyword.TheVariants as key
use Rattle.ak_describe.specs.Describes.{Opens, Adds, SaysNothing, IsLineFault}
use Rattle.ak_describe.specs.Keyword.{keyword_of, handler_word_of, action_of}
use Rattle.ak_describe.specs.Parts.{AppData}
use Rattle.ak_describe.specs.Pass.{State, may_stand, carry, carried, begun, read_words, read_line}
use Rattle.ak_describe.specs.Says.{Form, word_of, MayStand, Says, IsInUse, IsWithin, with_form, names_in, state_with}
use Rattle.ak_describe.specs.Words.{texts}
use Rattle.ak_describe.proofs.lines.Carrying.{CarriedBy, carry_is}
use Rattle.ak_describe.proofs.lines.Judging.{Judged, is_twice, is_over, is_done}
use Rattle.ak_describe.proofs.lines.Keeping.{form_kept, no_messages}
use Rattle.ak_describe.proofs.lines.Standing.{StateFits, stands_is}
use Rattle.ak_describe.proofs.grammar.Says.{form_read, says_is_read}

-- ---- the first word
keyword_word : (keyword : Keyword) → keyword_of (word_of keyword) ≡ Some keyword
unfolding keyword_of
keyword_word key.App = refl
keyword_word key.Looper = refl
keyword_word key.Hook = refl
keyword_word key.Prefer = refl
keyword_word key.Common = refl
keyword_word key.Handler = refl
keyword_word key.Next = refl
keyword_word key.Suite = refl
keyword_word key.Filter = refl
keyword_word key.Property = refl
keyword_word key.Element = refl
keyword_word key.On = refl
keyword_word key.Reply = refl
keyword_word key.Post = refl
keyword_word key.Ask = refl
keyword_word key.Set = refl
keyword_word key.Add = refl
keyword_word key.Drop = refl
keyword_word key.Quit = refl

-- only its word is read as a keyword
abbrev IsWordOf : List ℕ → Option Keyword → Type 0
IsWordOf word o = (keyword : Keyword) → o ≡ Some keyword → word ≡ word_of keyword

word_by : (word : List ℕ) (one : Keyword) (b : Bool) (o : Option Keyword) → (b ≡ true → word ≡ word_of one) → IsWordOf word o → IsWordOf word (cond b (Some one) o)
word_by word one true o is others keyword e = let same : one ≡ keyword = cc in is refl ∙ ap word_of same
word_by word one false o is others keyword e = others keyword e

word_or : (word : List ℕ) (one : Keyword) (o : Option Keyword) → IsWordOf word o → IsWordOf word (cond (bytes_eq word (word_of one)) (Some one) o)
word_or word one o others = word_by word one (bytes_eq word (word_of one)) o (bytes_eq-Decides word (word_of one)).0 others

word_of_none : (word : List ℕ) → IsWordOf word None
word_of_none word keyword e = absurd cc

action_word : (word : List ℕ) → IsWordOf word (action_of word)
action_word word =
    word_or word key.Reply _
    (word_or word key.Post _
    (word_or word key.Ask _
    (word_or word key.Set _
    (word_or word key.Add _
    (word_or word key.Drop _
    (word_or word key.Quit None (word_of_none word)))))))

handler_word : (word : List ℕ) → IsWordOf word (handler_word_of word)
handler_word word =
    word_or word key.Handler _
    (word_or word key.Next _
    (word_or word key.Suite _
    (word_or word key.Filter _
    (word_or word key.Property _
    (word_or word key.Element _
    (word_or word key.On (action_of word) (action_word word)))))))

keyword_is : (word : List ℕ) → IsWordOf word (keyword_of word)
unfolding keyword_of
keyword_is word =
    word_or word key.App _
    (word_or word key.Looper _
    (word_or word key.Hook _
    (word_or word key.Prefer _
    (word_or word key.Common (handler_word_of word) (handler_word word)))))

same_word : (one other : Keyword) → word_of one ≡ word_of other → one ≡ other
same_word one other e =
    let first = keyword_word one in
    let second = keyword_word other in
    let both : keyword_of (word_of one) ≡ keyword_of (word_of other) = ap keyword_of e in
    cc

-- ---- a line that opens
opened_reads : (s : State) (line : Line) (keyword : Keyword) (words : List (List ℕ)) → Opens s line keyword words → read_line s line ≡ carried s line.number keyword (carry s.apps keyword words)
unfolding read_line
opened_reads s line keyword words o =
    ap (read_words s line.number) o.all
    ∙ ap (λ (x : Option Keyword). begun s line.number x words) (keyword_word keyword)
    ∙ cond-true (may_stand s keyword) _ _ ((stands_is s keyword).1 o.stands)

abbrev JudgedForm : State → Keyword → List (List ℕ) → Form → Type 0
JudgedForm s keyword words form = Judged (IsInUse s form) (IsWithin s form) (List AppData) (with_form s.apps form) (names_in form) (carry s.apps keyword words)

judged_form : (s : State) (keyword : Keyword) (words : List (List ℕ)) (form : Form) → StateFits s → MayStand s keyword → Says s keyword words form → JudgedForm s keyword words form
judged_form s keyword words form h stands said =
    subst (λ (o : Option Form). CarriedBy s o (carry s.apps keyword words)) ((says_is_read s keyword words form (no_messages s h)).0 said) (carry_is s keyword words h stands)

-- ---- what it adds is read
done_by : (s : State) (n : ℕ) (keyword : Keyword) (words : List (List ℕ)) (form : Form) → ¬ (IsInUse s form) → IsWithin s form → JudgedForm s keyword words form → carried s n keyword (carry s.apps keyword words) ≡ Ok (state_with s n keyword form)
done_by s n keyword words form is_new within (is_twice u e) = absurd (is_new u)
done_by s n keyword words form is_new within (is_over u w e) = absurd (w within)
done_by s n keyword words form is_new within (is_done u w e) = ap (carried s n keyword) e

pub line_adds : (s : State) (line : Line) (left : State) → StateFits s → Adds s line left → read_line s line ≡ Ok left
line_adds s line left h a =
    opened_reads s line a.keyword a.words a.opens
    ∙ done_by s line.number a.keyword a.words a.form a.is_new a.within (judged_form s a.keyword a.words a.form h a.opens.stands a.says)
    ∙ ap (λ (x : State). Ok x) (sym a.left_is)

pub adds_fits : (s : State) (line : Line) (left : State) → StateFits s → Adds s line left → StateFits left
adds_fits s line left h a =
    subst StateFits (sym a.left_is) (form_kept s a.keyword a.words a.form h a.opens.stands a.says a.within)

-- ---- what is read: what the line adds, or what is wrong with it
pub data Outcome (s : State) (line : Line) (r : Result State RefusalKind) : Type 0 where
  is_faulty : (kind : RefusalKind) → IsLineFault s line kind → r ≡ Err kind → Outcome s line r
  is_added : (left : State) → Adds s line left → r ≡ Ok left → Outcome s line r

judged_outcome : (s : State) (line : Line) (keyword : Keyword) (words : List (List ℕ)) (form : Form) → Opens s line keyword words → Says s keyword words form → JudgedForm s keyword words form
    → Outcome s line (carried s line.number keyword (carry s.apps keyword words))
judged_outcome s line keyword words form o said (is_twice u e) =
    is_faulty refusal.NameInUse (record { keyword = keyword; words = words; opens = o; form = form; says = said; in_use = u }) (ap (carried s line.number keyword) e)
judged_outcome s line keyword words form o said (is_over u w e) =
    is_faulty refusal.Limit (record { keyword = keyword; words = words; opens = o; form = form; says = said; is_new = u; over = w }) (ap (carried s line.number keyword) e)
judged_outcome s line keyword words form o said (is_done u w e) =
    is_added (state_with s line.number keyword form)
    (record { keyword = keyword; words = words; opens = o; form = form; says = said; is_new = u; within = w; left_is = refl }) (ap (carried s line.number keyword) e)

form_outcome : (s : State) (line : Line) (keyword : Keyword) (words : List (List ℕ)) (read : Option Form) → StateFits s → Opens s line keyword words → form_read s keyword words ≡ read → CarriedBy s read (carry s.apps keyword words)
    → Outcome s line (carried s line.number keyword (carry s.apps keyword words))
form_outcome s line keyword words None h o is c =
    is_faulty refusal.BadValue
    (record {
      keyword = keyword;
      words = words;
      opens = o;
      nothing = λ form said. let found = (says_is_read s keyword words form (no_messages s h)).0 said in cc (is, found);
    })
    (ap (carried s line.number keyword) c)
form_outcome s line keyword words (Some form) h o is c =
    judged_outcome s line keyword words form o ((says_is_read s keyword words form (no_messages s h)).1 is) c

stands_outcome : (s : State) (line : Line) (word : List ℕ) (keyword : Keyword) (words : List (List ℕ)) (stands : Bool) → StateFits s → texts line.words ≡ word ∷ words → word ≡ word_of keyword → may_stand s keyword ≡ stands
    → Outcome s line (cond stands (carried s line.number keyword (carry s.apps keyword words)) (Err refusal.UnknownLine))
stands_outcome s line word keyword words true h e is stands =
    let may = (stands_is s keyword).0 stands in
    form_outcome s line keyword words (form_read s keyword words) h (record { all = e ∙ ap (λ (w : List ℕ). w ∷ words) is; stands = may }) refl (carry_is s keyword words h may)
stands_outcome s line word keyword words false h e is stands =
    is_faulty refusal.UnknownLine
    (λ other behind o.
    let heads : word ≡ word_of other = (let all = o.all in cc) in
    let same : other ≡ keyword = same_word other keyword (sym heads ∙ is) in
    let may = (stands_is s keyword).1 (subst (MayStand s) same o.stands) in
    cc (stands, may))
    refl

keyword_outcome : (s : State) (line : Line) (word : List ℕ) (words : List (List ℕ)) (o : Option Keyword) → StateFits s → texts line.words ≡ word ∷ words → keyword_of word ≡ o → Outcome s line (begun s line.number o words)
keyword_outcome s line word words None h e is =
    is_faulty refusal.UnknownLine
    (λ other behind o.
    let heads : word ≡ word_of other = (let all = o.all in cc) in
    let found = ap keyword_of heads ∙ keyword_word other in
    cc (is, found))
    refl
keyword_outcome s line word words (Some keyword) h e is = stands_outcome s line word keyword words (may_stand s keyword) h e (keyword_is word keyword is) refl

words_outcome : (s : State) (line : Line) (words : List (List ℕ)) → StateFits s → texts line.words ≡ words → Outcome s line (read_words s line.number words)
words_outcome s line [] h e = is_faulty refusal.UnknownLine (λ other behind o. let all = o.all in cc (e, all)) refl
words_outcome s line (word ∷ words) h e = keyword_outcome s line word words (keyword_of word) h e refl

pub outcome : (s : State) (line : Line) → StateFits s → Outcome s line (read_line s line)
unfolding read_line
outcome s line h = words_outcome s line (texts line.words) h refl

-- ---- what is wrong with it is told
unknown_by : (s : State) (line : Line) (r : Result State RefusalKind) (kind : RefusalKind) → IsLineFault s line refusal.UnknownLine → IsLineFault s line kind → r ≡ Err kind → r ≡ Err refusal.UnknownLine
unknown_by s line r refusal.UnknownLine none f e = e
unknown_by s line r refusal.BadValue none f e = absurd (none f.keyword f.words f.opens)
unknown_by s line r refusal.NameInUse none f e = absurd (none f.keyword f.words f.opens)
unknown_by s line r refusal.Limit none f e = absurd (none f.keyword f.words f.opens)
unknown_by s line r _ none f e = absurd f

unknown_told : (s : State) (line : Line) (r : Result State RefusalKind) → IsLineFault s line refusal.UnknownLine → Outcome s line r → r ≡ Err refusal.UnknownLine
unknown_told s line r none (is_faulty kind f e) = unknown_by s line r kind none f e
unknown_told s line r none (is_added left a e) = absurd (none a.keyword a.words a.opens)

bad_by : (s : State) (keyword : Keyword) (words : List (List ℕ)) (read : Option Form) → StateFits s → SaysNothing s keyword words → form_read s keyword words ≡ read → CarriedBy s read (carry s.apps keyword words) → carry s.apps keyword words ≡ Err refusal.BadValue
bad_by s keyword words None h nothing is c = c
bad_by s keyword words (Some form) h nothing is c = absurd (nothing form ((says_is_read s keyword words form (no_messages s h)).1 is))

twice_by : (s : State) (keyword : Keyword) (words : List (List ℕ)) (form : Form) → IsInUse s form → JudgedForm s keyword words form → carry s.apps keyword words ≡ Err refusal.NameInUse
twice_by s keyword words form used (is_twice u e) = e
twice_by s keyword words form used (is_over u w e) = absurd (u used)
twice_by s keyword words form used (is_done u w e) = absurd (u used)

over_by : (s : State) (keyword : Keyword) (words : List (List ℕ)) (form : Form) → ¬ (IsInUse s form) → ¬ (IsWithin s form) → JudgedForm s keyword words form → carry s.apps keyword words ≡ Err refusal.Limit
over_by s keyword words form is_new out (is_twice u e) = absurd (is_new u)
over_by s keyword words form is_new out (is_over u w e) = e
over_by s keyword words form is_new out (is_done u w e) = absurd (out w)

told : (s : State) (line : Line) (keyword : Keyword) (words : List (List ℕ)) (kind : RefusalKind) → Opens s line keyword words → carry s.apps keyword words ≡ Err kind → read_line s line ≡ Err kind
told s line keyword words kind o e = opened_reads s line keyword words o ∙ ap (carried s line.number keyword) e

pub line_faults : (s : State) (line : Line) (kind : RefusalKind) → StateFits s → IsLineFault s line kind → read_line s line ≡ Err kind
line_faults s line refusal.UnknownLine h f = unknown_told s line (read_line s line) f (outcome s line h)
line_faults s line refusal.BadValue h f =
    told s line f.keyword f.words refusal.BadValue f.opens (bad_by s f.keyword f.words (form_read s f.keyword f.words) h f.nothing refl (carry_is s f.keyword f.words h f.opens.stands))
line_faults s line refusal.NameInUse h f =
    told s line f.keyword f.words refusal.NameInUse f.opens (twice_by s f.keyword f.words f.form f.in_use (judged_form s f.keyword f.words f.form h f.opens.stands f.says))
line_faults s line refusal.Limit h f =
    told s line f.keyword f.words refusal.Limit f.opens (over_by s f.keyword f.words f.form f.is_new f.over (judged_form s f.keyword f.words f.form h f.opens.stands f.says))
line_faults s line _ h f = absurd f
