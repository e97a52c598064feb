use Rattle.std.proofs.Common.{◌≡◌, [], ◌∷◌, refl}
use Rattle.tql_bind_query.specs.declared.from.Linked.{Linked}
use Rattle.tql_bind_query.proofs.ChainLaws.{alone}
use Rattle.tql_bind_query.proofs.FromLaws.{begun_placed}
use Rattle.tql_bind_query.proofs.from.first_linked.Goals as goal

pub returns : goal.returns
returns c =
    let s = c.in_ok-source.source in
    let scope : c.push.new.self.items ≡ s.known ∷ [] =
    alone c.new-scope.result.items c.push.new.self.items s.known c.new-scope.ensures.items
    c.in_ok-push.ensures.items in
    let l : Linked = record {
      chain = record { first = s.reference; joins = c.new.result };
      scope = c.push.new.self;
      width = s.reference.width;
    } in
    record {
      bound = record {
        source = s;
        bound = c.in_ok-source.ensures.bound;
        first = refl;
        joins = c.new.ensures.items;
        scope = scope;
        width = refl;
        placed = begun_placed l s scope c.in_ok-source.ensures.placed refl c.in_ok-source.ensures.narrow;
      };
    }
