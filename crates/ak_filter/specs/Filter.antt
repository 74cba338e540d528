-- Which messages a filter admits.
use Rattle.std.specs.Prelude.{ℕ, Bool, true, not, ◌==◌, ◌&&◌, Option, None, Some}
use Rattle.ak_base.specs.declared.code.Code.{Code}
use Rattle.ak_filter.specs.declared.filter.Filter.{Filter}
use Rattle.ak_filter.specs.declared.filter.Head.{Head}
use Rattle.ak_filter.specs.declared.filter.SourceIs.{SourceIs}
use Rattle.ak_filter.specs.declared.filter.SourceIs.TheVariants as source
use Rattle.ak_filter.specs.declared.filter.DeliveryIs.{DeliveryIs}
use Rattle.ak_filter.specs.declared.filter.DeliveryIs.TheVariants as delivery

abbrev pub fits_what : Option Code → ℕ → Bool
fits_what None what = true
fits_what (Some code) what = code.0 == what

abbrev pub fits_source : SourceIs → Bool → Bool
fits_source source.Any local = true
fits_source source.Local local = local
fits_source source.Remote local = not local

abbrev pub fits_delivery : DeliveryIs → Bool → Bool
fits_delivery delivery.Any dropped = true
fits_delivery delivery.Dropped dropped = dropped
fits_delivery delivery.Programmed dropped = not dropped

-- each criterion is any, or fits
abbrev pub admits : Filter → Head → Bool
admits f h = fits_what f.what h.what.0 && (fits_source f.source h.local && fits_delivery f.delivery h.dropped)
