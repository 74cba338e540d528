-- Another preferred handler: all that is true of handlers stays true.
use Rattle.std.proofs.Common.{◌≡◌, ℕ, true, Option}
use Rattle.ak_handler.specs.Changes.{may_be}
use Rattle.ak_handler.specs.Handlers.{HandlersData, IsHandlers}
use Rattle.ak_handler.proofs.Tokens.{may_be_there}

pub handlers_preferring : {R : Type 0} (s : HandlersData R) (at : Option ℕ) → IsHandlers s → may_be s.list at ≡ true → IsHandlers (record s { preferred = at })
handlers_preferring s at h e =
    record {
      looper = h.looper;
      limit = h.limit;
      tokens_rise = h.tokens_rise;
      tokens_below = h.tokens_below;
      next_token = h.next_token;
      names_differ = h.names_differ;
      next_is_there = h.next_is_there;
      preferred_is_there = may_be_there s.list at e;
      chains_end = h.chains_end;
    }
