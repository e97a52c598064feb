use Rattle.std.proofs.Common.{◌≡◌, ◌++◌, drop, map}
use Rattle.tql_spec.specs.Creation.{columns_of, application_parts, system_parts, constraints_of}
use Rattle.tql_syntax_tree.specs.Statements.{element_of}
use Rattle.tql_bind_draft.specs.Drafts.{elements_in}
use Rattle.tql_bind_draft.specs.Drafts.{columns_in, applications_in, systems_in, keys_in, references_in, key_parts}
use Rattle.tql_bind_draft.specs.Drafts.{reference_parts}
use Rattle.tql_bind_draft.proofs.draft.draft_of.Given as goal

abbrev pub invariant-loop-element : goal.invariant-loop-element
invariant-loop-element l = record {
  columns : columns_in l.draft ++ columns_of (map element_of (drop l.element-index l.element-items)) ≡ columns_of
      (elements_in l.fn.create);
  applications : applications_in l.draft ++ application_parts (map element_of (drop l.element-index l.element-items))
      ≡ application_parts (elements_in l.fn.create);
  systems : systems_in l.draft ++ system_parts (map element_of (drop l.element-index l.element-items)) ≡ system_parts
      (elements_in l.fn.create);
  keys : keys_in l.draft ++ key_parts (constraints_of (map element_of (drop l.element-index l.element-items)))
      ≡ key_parts (constraints_of (elements_in l.fn.create));
  references : references_in l.draft
      ++ reference_parts (constraints_of (map element_of (drop l.element-index l.element-items)))
      ≡ reference_parts (constraints_of (elements_in l.fn.create));
}
