-- The further words of the lines of filters.
use Rattle.std.proofs.Common.{◌≡◌, ◌↔◌, ℕ, Bool, true, false, List, [], ◌∷◌, ◌++◌, Option, Some, None, refl, sym, ap, subst, ◌∙◌}
use Rattle.std.specs.Prelude.{codes}
use Rattle.std.specs.Str.{bytes_eq}
use Rattle.std.proofs.lemmas.List.{append-nil}
use Rattle.std.proofs.lemmas.Slice.Eq.{bytes_eq-Decides}
use Rattle.ak_base.specs.declared.code.Code.{Code}
use Rattle.ak_filter.specs.declared.filter.DeliveryIs.{DeliveryIs}
use Rattle.ak_filter.specs.declared.filter.DeliveryIs.TheVariants as ways
use Rattle.ak_filter.specs.declared.filter.Filter.{Filter}
use Rattle.ak_filter.specs.declared.filter.SourceIs.{SourceIs}
use Rattle.ak_filter.specs.declared.filter.SourceIs.TheVariants as sides
use Rattle.ak_base.specs.Option.{where_true, ◌>>=◌}
use Rattle.ak_base.proofs.Surface.{bind_some, cond_some, some_is}
use Rattle.ak_describe.specs.declared.form.filter.Passing.{Passing}
use Rattle.ak_describe.specs.Forms.{code_behind, name_behind, source_of, source_found, source_at, delivery_of, delivery_found, delivery_at, skipping_at, passing_at, passing_behind, verdict_from, passing_from, filter_form}
use Rattle.ak_describe.specs.Grammar.{IsName, WritesCode, IsPart, IsSide, IsWay, IsVerdict, SaysFilter}
use Rattle.ak_describe.specs.Words.{behind, ends}
use Rattle.ak_describe.proofs.grammar.Choices.{chosen}
use Rattle.ak_describe.proofs.grammar.Parts.{read_as, read_is, ends_nil, all_of, behind_takes, NotFirst, IsBehind, word_at-takes, part_begins, code_part_takes, code_part_again, name_part_takes, name_part_again}

-- ---- `[from SIDE]`
abbrev side_word : SourceIs → List ℕ
side_word sides.Any = []
side_word sides.Local = codes "local"
side_word sides.Remote = codes "remote"

abbrev all_sides : List SourceIs
all_sides = sides.Local ∷ sides.Remote ∷ []

side_word_takes : (word : List ℕ) (side : SourceIs) → source_of word ≡ Some side → word ≡ side_word side
side_word_takes word side e = chosen bytes_eq bytes_eq-Decides side_word word all_sides side e

side_of_word : (word : List ℕ) (side : SourceIs) → source_of word ≡ Some side → IsSide side (codes "from" ∷ word ∷ [])
side_of_word word sides.Any e =
    let none : source_of word ≡ None = ap source_of (side_word_takes word sides.Any e) in
    absurd cc
side_of_word word sides.Local e = ap (λ (w : List ℕ). codes "from" ∷ w ∷ []) (side_word_takes word sides.Local e)
side_of_word word sides.Remote e = ap (λ (w : List ℕ). codes "from" ∷ w ∷ []) (side_word_takes word sides.Remote e)

pub side_takes : (words : List (List ℕ)) (side : SourceIs) (rest : List (List ℕ)) → source_at words ≡ read_as side rest → (part : List (List ℕ)) × (words ≡ part ++ rest) × IsSide side part
side_takes words side rest e = by_key (behind words (codes "from")) refl e where
  by_key : (o : Option (List (List ℕ))) → behind words (codes "from") ≡ o → source_found words o ≡ read_as side rest → (part : List (List ℕ)) × (words ≡ part ++ rest) × IsSide side part
  by_key None is e =
      let p = read_is sides.Any side words rest e in
      ([], p.1, subst (λ (s : SourceIs). IsSide s []) p.0 refl)
  by_key (Some after) is e =
      let w = word_at-takes source_of after side rest e in
      (codes "from" ∷ w.0 ∷ [], behind_takes words (codes "from") after is ∙ ap (λ (ws : List (List ℕ)). codes "from" ∷ ws) w.1, side_of_word w.0 side w.2)

pub side_again : (part : List (List ℕ)) (side : SourceIs) (rest : List (List ℕ)) → NotFirst (codes "from") rest → IsSide side part → source_at (part ++ rest) ≡ read_as side rest
side_again part sides.Any rest none is = subst (λ (ps : List (List ℕ)). source_at (ps ++ rest) ≡ read_as sides.Any rest) (sym is) (ap (λ (o : Option (List (List ℕ))). source_found rest o) none)
side_again part sides.Local rest none is = subst (λ (ps : List (List ℕ)). source_at (ps ++ rest) ≡ read_as sides.Local rest) (sym is) refl
side_again part sides.Remote rest none is = subst (λ (ps : List (List ℕ)). source_at (ps ++ rest) ≡ read_as sides.Remote rest) (sym is) refl

side_begins : (side : SourceIs) (part rest : List (List ℕ)) (P : List (List ℕ) → Type 0) → IsSide side part → P rest → ((more : List (List ℕ)) → P (codes "from" ∷ more)) → P (part ++ rest)
side_begins sides.Any part rest P is here there = subst (λ (ps : List (List ℕ)). P (ps ++ rest)) (sym is) here
side_begins sides.Local part rest P is here there = subst (λ (ps : List (List ℕ)). P (ps ++ rest)) (sym is) (there (codes "local" ∷ rest))
side_begins sides.Remote part rest P is here there = subst (λ (ps : List (List ℕ)). P (ps ++ rest)) (sym is) (there (codes "remote" ∷ rest))

-- ---- `[by WAY]`
abbrev way_word : DeliveryIs → List ℕ
way_word ways.Any = []
way_word ways.Dropped = codes "dropped"
way_word ways.Programmed = codes "programmed"

abbrev all_ways : List DeliveryIs
all_ways = ways.Dropped ∷ ways.Programmed ∷ []

way_word_takes : (word : List ℕ) (way : DeliveryIs) → delivery_of word ≡ Some way → word ≡ way_word way
way_word_takes word way e = chosen bytes_eq bytes_eq-Decides way_word word all_ways way e

way_of_word : (word : List ℕ) (way : DeliveryIs) → delivery_of word ≡ Some way → IsWay way (codes "by" ∷ word ∷ [])
way_of_word word ways.Any e =
    let none : delivery_of word ≡ None = ap delivery_of (way_word_takes word ways.Any e) in
    absurd cc
way_of_word word ways.Dropped e = ap (λ (w : List ℕ). codes "by" ∷ w ∷ []) (way_word_takes word ways.Dropped e)
way_of_word word ways.Programmed e = ap (λ (w : List ℕ). codes "by" ∷ w ∷ []) (way_word_takes word ways.Programmed e)

pub way_takes : (words : List (List ℕ)) (way : DeliveryIs) (rest : List (List ℕ)) → delivery_at words ≡ read_as way rest → (part : List (List ℕ)) × (words ≡ part ++ rest) × IsWay way part
way_takes words way rest e = by_key (behind words (codes "by")) refl e where
  by_key : (o : Option (List (List ℕ))) → behind words (codes "by") ≡ o → delivery_found words o ≡ read_as way rest → (part : List (List ℕ)) × (words ≡ part ++ rest) × IsWay way part
  by_key None is e =
      let p = read_is ways.Any way words rest e in
      ([], p.1, subst (λ (s : DeliveryIs). IsWay s []) p.0 refl)
  by_key (Some after) is e =
      let w = word_at-takes delivery_of after way rest e in
      (codes "by" ∷ w.0 ∷ [], behind_takes words (codes "by") after is ∙ ap (λ (ws : List (List ℕ)). codes "by" ∷ ws) w.1, way_of_word w.0 way w.2)

pub way_again : (part : List (List ℕ)) (way : DeliveryIs) (rest : List (List ℕ)) → NotFirst (codes "by") rest → IsWay way part → delivery_at (part ++ rest) ≡ read_as way rest
way_again part ways.Any rest none is = subst (λ (ps : List (List ℕ)). delivery_at (ps ++ rest) ≡ read_as ways.Any rest) (sym is) (ap (λ (o : Option (List (List ℕ))). delivery_found rest o) none)
way_again part ways.Dropped rest none is = subst (λ (ps : List (List ℕ)). delivery_at (ps ++ rest) ≡ read_as ways.Dropped rest) (sym is) refl
way_again part ways.Programmed rest none is = subst (λ (ps : List (List ℕ)). delivery_at (ps ++ rest) ≡ read_as ways.Programmed rest) (sym is) refl

way_begins : (way : DeliveryIs) (part rest : List (List ℕ)) (P : List (List ℕ) → Type 0) → IsWay way part → P rest → ((more : List (List ℕ)) → P (codes "by" ∷ more)) → P (part ++ rest)
way_begins ways.Any part rest P is here there = subst (λ (ps : List (List ℕ)). P (ps ++ rest)) (sym is) here
way_begins ways.Dropped part rest P is here there = subst (λ (ps : List (List ℕ)). P (ps ++ rest)) (sym is) (there (codes "dropped" ∷ rest))
way_begins ways.Programmed part rest P is here there = subst (λ (ps : List (List ℕ)). P (ps ++ rest)) (sym is) (there (codes "programmed" ∷ rest))

-- ---- `skip`, or `pass [to NAME] [as CODE]`
abbrev filter_with : Option Code → SourceIs → DeliveryIs → Passing → Filter
filter_with what side way p = record { what = what; source = side; delivery = way; skip = p.skip; to = p.to; set_what = p.set_what }

abbrev passing_with : Bool → Option (List ℕ) → Option Code → Passing
passing_with skip to set_what = record { skip = skip; to = to; set_what = set_what }

abbrev some_pass : Bool → Option (List ℕ) → Option Code → Option Passing
some_pass skip to set_what = Some (passing_with skip to set_what)

abbrev some_filter : Option Code → SourceIs → DeliveryIs → Passing → Option Filter
some_filter what side way p = Some (filter_with what side way p)

-- a filter with what is said behind its criteria
abbrev IsSaid : Passing → List (List ℕ) → Type 0
IsSaid p words = IsVerdict p.skip (filter_with None sides.Any ways.Any p) words

passing_of : (words after rest : List (List ℕ)) (to : Option (List ℕ)) (set_what : Option Code) → IsBehind (IsPart (codes "to") IsName) to words after → IsBehind (IsPart (codes "as") WritesCode) set_what after rest → rest ≡ []
    → IsSaid (passing_with false to set_what) (codes "pass" ∷ words)
passing_of words after rest to set_what to_part as_part none =
    record {
      to_part = to_part.0;
      as_part = as_part.0;
      all = ap (λ (ws : List (List ℕ)). codes "pass" ∷ ws) (to_part.1 ∙ ap (λ (ws : List (List ℕ)). to_part.0 ++ ws) (all_of after as_part.0 rest as_part.1 none));
      to_is = to_part.2;
      as_is = as_part.2;
    }

pass_takes : (words : List (List ℕ)) (p : Passing) → passing_at words ≡ Some p → IsSaid p (codes "pass" ∷ words)
unfolding passing_at
pass_takes words p e =
    let to = bind_some (name_behind words (codes "to")) (λ (to : Option (List ℕ) × List (List ℕ)). code_behind to.1 (codes "as") >>= λ set_what. where_true (ends set_what.1) (passing_with false to.0 set_what.0)) p e in
    let set_what = bind_some (code_behind to.0.1 (codes "as")) (λ (set_what : Option Code × List (List ℕ)). where_true (ends set_what.1) (passing_with false to.0.0 set_what.0)) p to.2 in
    let t = cond_some (ends set_what.0.1) (passing_with false to.0.0 set_what.0.0) p set_what.2 in
    subst (λ (q : Passing). IsSaid q (codes "pass" ∷ words)) {x = passing_with false to.0.0 set_what.0.0} {y = p} t.1
    (passing_of words to.0.1 set_what.0.1 to.0.0 set_what.0.0 (name_part_takes (codes "to") words to.0.0 to.0.1 to.1) (code_part_takes (codes "as") to.0.1 set_what.0.0 set_what.0.1 set_what.1) (ends_nil set_what.0.1 t.0))

skip_takes : (words : List (List ℕ)) (p : Passing) → skipping_at words ≡ Some p → IsSaid p (codes "skip" ∷ words)
skip_takes words p e =
    let t = cond_some (ends words) (passing_with true None None) p e in
    subst (λ (q : Passing). IsSaid q (codes "skip" ∷ words)) t.1 (ap (λ (ws : List (List ℕ)). codes "skip" ∷ ws) (ends_nil words t.0), refl, refl)

verdict_takes : (words : List (List ℕ)) (p : Passing) → passing_from words ≡ Some p → IsSaid p words
unfolding passing_from
verdict_takes words p e = by_skip (behind words (codes "skip")) refl e where
  by_pass : (o : Option (List (List ℕ))) → behind words (codes "pass") ≡ o → passing_behind o ≡ Some p → IsSaid p words
  by_pass None is e = absurd cc
  by_pass (Some rest) is e = subst (λ (ws : List (List ℕ)). IsSaid p ws) (sym (behind_takes words (codes "pass") rest is)) (pass_takes rest p e)

  by_skip : (o : Option (List (List ℕ))) → behind words (codes "skip") ≡ o → verdict_from words o ≡ Some p → IsSaid p words
  by_skip (Some rest) is e = subst (λ (ws : List (List ℕ)). IsSaid p ws) (sym (behind_takes words (codes "skip") rest is)) (skip_takes rest p e)
  by_skip None is e = by_pass (behind words (codes "pass")) refl e

pass_again : (f : Filter) (to_part as_part : List (List ℕ)) → IsPart (codes "to") IsName f.to to_part → IsPart (codes "as") WritesCode f.set_what as_part → passing_at (to_part ++ as_part) ≡ Some (passing_with false f.to f.set_what)
unfolding passing_at
pass_again f to_part as_part to_is as_is =
    let whole = append-nil as_part in
    let not_to = subst (λ (ws : List (List ℕ)). NotFirst (codes "to") ws) whole (part_begins WritesCode (codes "as") f.set_what as_part [] (λ ws. NotFirst (codes "to") ws) as_is refl (λ more. refl)) in
    let to = name_part_again (codes "to") to_part f.to as_part not_to to_is in
    let set_what = subst (λ (ws : List (List ℕ)). code_behind ws (codes "as") ≡ read_as f.set_what []) whole (code_part_again (codes "as") as_part f.set_what [] refl as_is) in
    ap (λ (o : Option (Option (List ℕ) × List (List ℕ))). o >>= (λ (t : Option (List ℕ) × List (List ℕ)). code_behind t.1 (codes "as") >>= (λ (s : Option Code × List (List ℕ)). where_true (ends s.1) (passing_with false t.0 s.0)))) to
    ∙ ap (λ (o : Option (Option Code × List (List ℕ))). o >>= (λ (s : Option Code × List (List ℕ)). where_true (ends s.1) (passing_with false f.to s.0))) set_what

verdict_again : (skip : Bool) (f : Filter) (words : List (List ℕ)) → IsVerdict skip f words → passing_from words ≡ Some (passing_with skip f.to f.set_what)
unfolding passing_from
verdict_again true f words is =
    ap passing_from is.0
    ∙ ap (λ (to : Option (List ℕ)). some_pass true to None) (sym is.1)
    ∙ ap (λ (code : Option Code). some_pass true f.to code) (sym is.2)
verdict_again false f words is = ap passing_from is.all ∙ pass_again f is.to_part is.as_part is.to_is is.as_is

verdict_begins : (skip : Bool) (f : Filter) (words : List (List ℕ)) (P : List (List ℕ) → Type 0) → IsVerdict skip f words → ((more : List (List ℕ)) → P (codes "skip" ∷ more)) → ((more : List (List ℕ)) → P (codes "pass" ∷ more)) → P words
verdict_begins true f words P is skips passes = subst (λ (ws : List (List ℕ)). P ws) (sym is.0) (skips [])
verdict_begins false f words P is skips passes = subst (λ (ws : List (List ℕ)). P ws) (sym is.all) (passes (is.to_part ++ is.as_part))

-- the criteria are said before
said_of : (skip : Bool) (p : Passing) (what : Option Code) (side : SourceIs) (way : DeliveryIs) (words : List (List ℕ)) → IsVerdict skip (filter_with None sides.Any ways.Any p) words → IsVerdict skip (filter_with what side way p) words
said_of true p what side way words is = is
said_of false p what side way words is = record { to_part = is.to_part; as_part = is.as_part; all = is.all; to_is = is.to_is; as_is = is.as_is }

-- ---- all of it
abbrev with_way : Option Code → SourceIs → DeliveryIs × List (List ℕ) → Option Filter
with_way what side way = passing_from way.1 >>= λ (p : Passing). some_filter what side way.0 p

abbrev with_side : Option Code → SourceIs × List (List ℕ) → Option Filter
with_side what side = delivery_at side.1 >>= λ (way : DeliveryIs × List (List ℕ)). with_way what side.0 way

abbrev with_what : Option Code × List (List ℕ) → Option Filter
with_what what = source_at what.1 >>= λ (side : SourceIs × List (List ℕ)). with_side what.0 side

filter_of : (words after_what after_side verdict : List (List ℕ)) (what : Option Code) (side : SourceIs) (way : DeliveryIs) (p : Passing) → IsBehind (IsPart (codes "what") WritesCode) what words after_what → IsBehind IsSide side after_what after_side
    → IsBehind IsWay way after_side verdict → IsSaid p verdict → SaysFilter words (filter_with what side way p)
filter_of words after_what after_side verdict what side way p what_part side_part way_part said =
    record {
      what_part = what_part.0;
      side_part = side_part.0;
      way_part = way_part.0;
      verdict = verdict;
      all = what_part.1 ∙ ap (λ (ws : List (List ℕ)). what_part.0 ++ ws) (side_part.1 ∙ ap (λ (ws : List (List ℕ)). side_part.0 ++ ws) way_part.1);
      what_is = what_part.2;
      side_is = side_part.2;
      way_is = way_part.2;
      verdict_is = said_of p.skip p what side way verdict said;
    }

filter_takes : (words : List (List ℕ)) (f : Filter) → filter_form words ≡ Some f → SaysFilter words f
unfolding filter_form
filter_takes words f e =
    let what = bind_some (code_behind words (codes "what")) with_what f e in
    let side = bind_some (source_at what.0.1) (λ (side : SourceIs × List (List ℕ)). with_side what.0.0 side) f what.2 in
    let way = bind_some (delivery_at side.0.1) (λ (way : DeliveryIs × List (List ℕ)). with_way what.0.0 side.0.0 way) f side.2 in
    let p = bind_some (passing_from way.0.1) (λ (p : Passing). some_filter what.0.0 side.0.0 way.0.0 p) f way.2 in
    subst (λ (g : Filter). SaysFilter words g) {x = filter_with what.0.0 side.0.0 way.0.0 p.0} {y = f} (some_is (filter_with what.0.0 side.0.0 way.0.0 p.0) f p.2)
    (filter_of words what.0.1 side.0.1 way.0.1 what.0.0 side.0.0 way.0.0 p.0 (code_part_takes (codes "what") words what.0.0 what.0.1 what.1) (side_takes what.0.1 side.0.0 side.0.1 side.1) (way_takes side.0.1 way.0.0 way.0.1 way.1) (verdict_takes way.0.1 p.0 p.1))

filter_again : (words : List (List ℕ)) (f : Filter) → SaysFilter words f → filter_form words ≡ Some f
unfolding filter_form
filter_again words f is =
    let not_by = verdict_begins f.skip f is.verdict (λ ws. NotFirst (codes "by") ws) is.verdict_is (λ more. refl) (λ more. refl) in
    let not_from =
    way_begins f.delivery is.way_part is.verdict (λ ws. NotFirst (codes "from") ws) is.way_is
    (verdict_begins f.skip f is.verdict (λ ws. NotFirst (codes "from") ws) is.verdict_is (λ more. refl) (λ more. refl)) (λ more. refl) in
    let not_what =
    side_begins f.source is.side_part (is.way_part ++ is.verdict) (λ ws. NotFirst (codes "what") ws) is.side_is
    (way_begins f.delivery is.way_part is.verdict (λ ws. NotFirst (codes "what") ws) is.way_is
    (verdict_begins f.skip f is.verdict (λ ws. NotFirst (codes "what") ws) is.verdict_is (λ more. refl) (λ more. refl)) (λ more. refl)) (λ more. refl) in
    let what = code_part_again (codes "what") is.what_part f.what (is.side_part ++ (is.way_part ++ is.verdict)) not_what is.what_is in
    let side = side_again is.side_part f.source (is.way_part ++ is.verdict) not_from is.side_is in
    let way = way_again is.way_part f.delivery is.verdict not_by is.way_is in
    let passing = verdict_again f.skip f is.verdict is.verdict_is in
    ap filter_form is.all
    ∙ ap (λ (o : Option (Option Code × List (List ℕ))). o >>= (λ (w : Option Code × List (List ℕ)). with_what w)) what
    ∙ ap (λ (o : Option (SourceIs × List (List ℕ))). o >>= (λ (s : SourceIs × List (List ℕ)). with_side f.what s)) side
    ∙ ap (λ (o : Option (DeliveryIs × List (List ℕ))). o >>= (λ (w : DeliveryIs × List (List ℕ)). with_way f.what f.source w)) way
    ∙ ap (λ (o : Option Passing). o >>= (λ (p : Passing). some_filter f.what f.source f.delivery p)) passing

pub filter_is_read : (words : List (List ℕ)) (f : Filter) → SaysFilter words f ↔ (filter_form words ≡ Some f)
filter_is_read words f = (λ is. filter_again words f is, λ e. filter_takes words f e)
